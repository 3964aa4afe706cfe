-- shown::never_above meets its contract.
use Prim.Native.Nat.{ℕ}
use mathlib.Core.Path.{refl, ap}
use mathlib.Core.Bool.{Bool, ◌&&◌}
use native.Mathlib.Omega.{arith}
use Rattle.laws.specs.Folds.{every, every_step}
use Rattle.prices.specs.Price.{within}
use Rattle.assignment_problem.specs.Choice.{cell_at}
use Rattle.shown.specs.Shown.{never_above}
use Rattle.shown.specs.Fits.{price_at}
use Rattle.shown.proofs.never_above.Goals as goal

pub loop-i-init : goal.loop-i-init
unfolding never_above every
loop-i-init c = (omega arith, refl)

pub loop-i-preserved : goal.loop-i-preserved
unfolding never_above
loop-i-preserved c =
    let a = c.args in
    let l = c.loop-i in (
      omega (arith, c.loop-i-test.true),
      every_step (λ (i : ℕ). every (λ (j : ℕ). within (price_at a.u.now i) (price_at a.v.now j) (cell_at a.cells.now a.w i j)) a.w)
          l.i l.invariant.1 (ap (λ (b : Bool). l.ok && b) c.row_within-ok.ensures),
    )
