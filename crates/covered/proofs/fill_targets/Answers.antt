-- covered::fill_targets meets its contract.
use Prim.Native.Nat.{ℕ, ◌+◌, ◌*◌}
use Rattle.covered.specs.Columns.{served_target}
use Rattle.layout.specs.Records.{sheet_of, from, car_of}
use borrow.Author.Rules.{rules}
use mathlib.Core.Path.{◌≡◌, ap₂, ◌∙◌}
use Rattle.covered.proofs.fill_targets.Goals as goal

pub returns : goal.returns
unfolding sheet_of
returns c =
    let a = c.args in (
      c.fill.ensures.0,
      c.fill.ensures.1 (λ i. served_target ((sheet_of a.s.now a.c).car i))
          (λ i x l p.
          let e : x ≡ served_target (car_of a.c.across (from a.s.now (c.cars_from.result + c.car_bits.result * i))) = search rules in
          e ∙ ap₂ (λ (n k : ℕ). served_target (car_of a.c.across (from a.s.now (n + k * i)))) c.cars_from.ensures c.car_bits.ensures),
    )
