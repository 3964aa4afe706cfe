-- matcher::too_large meets its contract.
use native.Mathlib.Omega.{arith}
use Prim.Native.Nat.{ℕ, ◌+◌, ◌<◌}
use lib.Dec.{eqb}
use mathlib.Core.Path.{◌≡◌, refl, ap, ◌∙◌}
use mathlib.Core.Bool.{Bool, true, false, not}
use mathlib.Core.Logic.{⊎_elim}
use borrow.Author.Tests.{ne_eqb, ltb-true, ltb-false}
use lib.Bits.{bit_or, or_zero_r, or_add_and, and_le_l}
use lib.ListN.{get_or}
use Rattle.laws.specs.Bools.{which}
use Rattle.laws.specs.Folds.{any, any_yes, any_no}
use Rattle.assignment_problem.specs.Choice.{sentinel}
use Rattle.matcher.specs.Promise.{too_large}
use Rattle.matcher.proofs.too_large.Goals as goal

-- one more test, whose number is 0 exactly where it fails
next : (p : ℕ → Bool) (k over x : ℕ) → (p k ≡ true → 0 < x) → (p k ≡ false → x ≡ 0) → not (eqb over 0) ≡ any p k
    → not (eqb (bit_or over x) 0) ≡ any p (k + 1)
next p k over x some none e =
    ⊎_elim
    (λ t. any_yes p k t (ap not (ne_eqb (bit_or over x) 0 (λ z. omega (arith, some t, or_add_and over x, and_le_l over x)))))
    (λ f. any_no p k f (ap (λ y. not (eqb (bit_or over y) 0)) (none f) ∙ ap (λ y. not (eqb y 0)) (or_zero_r over) ∙ e))
    (which (p k))

pub loop-cell-init : goal.loop-cell-init
unfolding any
loop-cell-init c = refl

pub loop-cell-preserved : goal.loop-cell-preserved
loop-cell-preserved c =
    let l = c.loop-cell in
    let cells = c.args.cells.now in
    let x = get_or cells l.cell-index 0 in
    next (too_large cells) l.cell-index l.over c.excess-over.result (λ t. c.excess-over.ensures.above (ltb-true sentinel x t))
    (λ f. c.excess-over.ensures.at_most (ltb-false sentinel x f)) l.invariant
