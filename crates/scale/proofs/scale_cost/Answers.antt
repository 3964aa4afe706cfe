-- scale::scale_cost meets its contract.
use Prim.Native.Nat.{ℕ}
use mathlib.Core.Path.{◌≡◌, sym, ap, ◌∙◌}
use mathlib.Core.Bool.{Bool, true, false, not, true≢false}
use lib.Ieee.{Float, lt}
use Rattle.fp.specs.Num.{zero, million, times, finite}
use Rattle.scale.specs.Scale.{sentinel, whole, scale_cost, above_ceiling, held_down}
use Rattle.scale.proofs.scale_cost.Goals as goal
use Rattle.scale.proofs.scale_cost.Goals.{then-not-finite, else-not-finite}

module _ (x : Float) {cell : ℕ} {held : Bool} where
  no_number : finite x ≡ false → (cell ≡ sentinel) × (held ≡ false) → (cell ≡ scale_cost x) × (held ≡ held_down x)
  unfolding scale_cost held_down
  no_number f e = (rw f e.0, rw f e.1)

  below_zero : finite x ≡ true → lt x zero ≡ true → (cell ≡ sentinel) × (held ≡ false) → (cell ≡ scale_cost x) × (held ≡ held_down x)
  unfolding scale_cost held_down
  below_zero f n e = (rw (f, n) e.0, rw (f, n) e.1)

  a_cost : finite x ≡ true → lt x zero ≡ false → (cell ≡ whole (times x million)) × (held ≡ above_ceiling (times x million))
      → (cell ≡ scale_cost x) × (held ≡ held_down x)
  unfolding scale_cost held_down
  a_cost f n e = (rw (f, n) e.0, rw (f, n) e.1)

pub returns-then-cost : goal.returns-then-cost
returns-then-cost c =
    let x = c.args.cost in
    elim c.if-not-finite.branch [
      | then-not-finite w ↦ no_number x (sym c.finite.ensures ∙ w.if-not-finite.true) c.no_rank.ensures
      | else-not-finite w ↦ below_zero x (sym c.finite.ensures ∙ w.if-not-finite.false) (sym w.value-is ∙ c.if-cost.true) c.no_rank.ensures
    ]

pub returns-else-cost : goal.returns-else-cost
returns-else-cost c =
    let x = c.args.cost in
    elim c.if-not-finite.branch [
      | then-not-finite w ↦ absurd (true≢false (ap not (sym w.if-not-finite.true) ∙ sym w.value-is ∙ c.if-cost.false))
      | else-not-finite w ↦ a_cost x (sym c.finite.ensures ∙ w.if-not-finite.false) (sym w.value-is ∙ c.if-cost.false) c.whole.ensures
    ]
