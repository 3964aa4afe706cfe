-- shown::row_within meets its contract.
use Prim.Native.Nat.{ℕ}
use mathlib.Core.Path.{refl, ap, ap₂, ◌∙◌}
use mathlib.Core.Bool.{Bool, ◌&&◌}
use lib.IntN.{ℤ}
use native.Mathlib.Omega.{arith}
use Rattle.laws.specs.Folds.{every, every_step}
use Rattle.prices.specs.Price.{within}
use Rattle.prices.specs.PriceLaws.{same_price}
use Rattle.assignment_problem.specs.Choice.{cell_at}
use Rattle.shown.specs.Fits.{price_at}
use Rattle.shown.proofs.row_within.Goals as goal

pub loop-j-init : goal.loop-j-init
unfolding every
loop-j-init c = (omega arith, refl)

pub loop-j-preserved : goal.loop-j-preserved
loop-j-preserved c =
    let a = c.args in
    let l = c.loop-j in
    let p = c.requires in
    let x = p.0.cars_in_range a.i p.1 in
    let y = p.0.columns_in_range l.j c.loop-j-test.true in (
      omega (arith, c.loop-j-test.true),
      every_step (λ (k : ℕ). within (price_at a.u.now a.i) (price_at a.v.now k) (cell_at a.cells.now a.w a.i k)) l.j l.invariant.1
          (ap (λ (b : Bool). l.ok && b) (c.within-ok.ensures ∙ ap₂ (λ (s t : ℤ). within s t (cell_at a.cells.now a.w a.i l.j)) (same_price _ x) (same_price _ y))),
    )
