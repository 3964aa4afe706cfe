-- cars::four_from meets its contract.
use Prim.Native.Nat.{ℕ, ◌+◌, ◌-◌, min}
use Rattle.cars.specs.Cars.{blank, four_from}
use Rattle.laws.specs.Tables.{tab, tab_next}
use Rattle.layout.specs.Records.{sheet_of}
use lib.ListN.{get_or, drop, replicate, length-set}
use mathlib.Core.List.{◌++◌}
use mathlib.Core.Path.{◌≡◌, refl, ap, ◌∙◌}
use native.Mathlib.Omega.{arith}
use Rattle.cars.proofs.four_from.Goals as goal

pub overflow_sub-idle : goal.overflow_sub-idle
overflow_sub-idle c = omega (arith, c.requires.2)

pub loop-k-init : goal.loop-k-init
unfolding tab
loop-k-init c = let e = ap (replicate 4) c.blank-cars.ensures in (omega arith, refl, e)

pub overflow_add-i : goal.overflow_add-i
overflow_add-i c = let p = c.requires in omega (arith, p.1, p.2, c.min-n.ensures, c.loop-k-test.true)

pub offset_bounds-idle-first : goal.offset_bounds-idle-first
offset_bounds-idle-first c = let p = c.requires in omega (arith, p.1, p.2, c.min-n.ensures, c.loop-k-test.true)

pub bounds-idle-first : goal.bounds-idle-first
bounds-idle-first c = let p = c.requires in omega (arith, p.1, p.2, c.min-n.ensures, c.loop-k-test.true)

pub overflow_cast-i : goal.overflow_cast-i
overflow_cast-i c =
    let p = c.requires in
    let l = p.3 (c.args.first + c.loop-k.k) (omega (arith, p.2, c.min-n.ensures, c.loop-k-test.true)) in
    omega (arith, l, p.0.cars)

pub car_at-requires : goal.car_at-requires
car_at-requires c =
    let p = c.requires in (p.0, p.3 (c.args.first + c.loop-k.k) (omega (arith, p.2, c.min-n.ensures, c.loop-k-test.true)))

pub offset_bounds-cars-k : goal.offset_bounds-cars-k
offset_bounds-cars-k c = omega (arith, c.min-n.ensures, c.loop-k-test.true)

pub bounds-cars-k : goal.bounds-cars-k
bounds-cars-k c = omega (arith, c.min-n.ensures, c.loop-k-test.true, c.loop-k.invariant.1)

pub loop-k-preserved : goal.loop-k-preserved
loop-k-preserved c =
    let l = c.loop-k in
    let a = c.args in (
      omega (arith, c.loop-k-test.true),
      simp length-set l.invariant.1,
      tab_next (λ i. (sheet_of a.s.now a.c).car (get_or a.idle.now.at (a.first + i) 0)) (replicate 4 blank) l.cars l.k c.car_at.result
          (omega (arith, c.min-n.ensures, c.loop-k-test.true)) l.invariant.2 c.car_at.ensures,
    )

pub returns : goal.returns
unfolding sheet_of four_from
returns c =
    let l = c.loop-k in
    let a = c.args in
    let e : l.k ≡ min (a.idle.now.count - a.first) 4 = omega (arith, l.invariant.0, c.loop-k-test.false, c.min-n.ensures) in
    l.invariant.2 ∙ ap (λ (k : ℕ). tab (λ i. (sheet_of a.s.now a.c).car (get_or a.idle.now.at (a.first + i) 0)) k ++ drop k (replicate 4 blank)) e
