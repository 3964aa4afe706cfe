-- replay_grades::differs meets its contract.
use Prim.Native.Nat.{ℕ, ◌+◌, ◌-◌}
use borrow.Author.Rules.{rules}
use Rattle.std.proofs.Common.{◌≡◌, refl, arith, length-take-le}
use Rattle.std.proofs.lemmas.List.{length-replicate, take-replicate}
use Rattle.std.specs.Prelude.{ℤ, replicate, pos}
use Rattle.lists.specs.Lists.{number_in}
use Rattle.replay_grades.specs.Cases.{columns_at, cars_at, prices_at, price_in, differ_by}
use Rattle.replay_grades.proofs.differs.Goals as goal

pub slice_bounds-grade-end : goal.slice_bounds-grade-end
slice_bounds-grade-end c = omega (arith, c.requires.1.within)

pub is_apart-requires : goal.is_apart-requires
is_apart-requires c =
    let p = c.requires.1 in
    (omega (arith, p.cells, p.lent), omega (arith, p.within))

pub returns : goal.returns
returns c =
    let a = c.args in
    let s = a.s.now in
    let h = a.h in
    let f = c.requires.1 in
    let e : a.at + 15 + h.bytes - (a.at + 15) ≡ h.bytes = omega arith in
    differ_by s a.at h e
    (record {
      one_a_column = length-take-le h.columns (replicate 128 0) (omega (arith, f.columns, length-replicate {A = ℕ} 128 0));
      one_a_car = length-take-le h.cars (replicate 128 (pos 0)) (omega (arith, f.cars, length-replicate {A = ℤ} 128 (pos 0)));
      one_a_price = length-take-le h.prices (replicate 128 (pos 0)) (omega (arith, f.prices, length-replicate {A = ℤ} 128 (pos 0)));
      one_a_cell = refl;
    })
    (c.fill.ensures (number_in s (columns_at a.at h) 4) (λ k x l e. search rules))
    (c.fill-2.ensures (price_in s (cars_at a.at h)) (λ k x l e. search rules))
    (c.fill-3.ensures (price_in s (prices_at a.at h)) (λ k x l e. search rules))
    (take-replicate h.lent 2052 99 f.lent) c.grade.ensures c.answer_of-got.ensures c.is_apart.ensures
