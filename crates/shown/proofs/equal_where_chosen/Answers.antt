-- shown::equal_where_chosen meets its contract.
use Prim.Native.Nat.{ℕ}
use mathlib.Core.Path.{refl, ap, ap₂, ◌∙◌}
use mathlib.Core.Bool.{Bool, ◌&&◌}
use native.Mathlib.Omega.{arith}
use lib.IntN.{ℤ}
use Rattle.laws.specs.Folds.{every, every_step}
use Rattle.prices.specs.Price.{equals}
use Rattle.prices.specs.PriceLaws.{same_price}
use Rattle.assignment_problem.specs.Choice.{cell_at}
use Rattle.shown.specs.Shown.{equal_where_chosen}
use Rattle.shown.specs.Fits.{price_at, column_of}
use Rattle.shown.proofs.equal_where_chosen.Goals as goal

pub loop-i-init : goal.loop-i-init
unfolding equal_where_chosen every
loop-i-init c = (omega arith, refl)

pub loop-i-preserved : goal.loop-i-preserved
unfolding equal_where_chosen
loop-i-preserved c =
    let a = c.args in
    let p = c.requires in
    let l = c.loop-i in
    let t = c.loop-i-test.true in
    let j = column_of a.columns.now l.i in
    let x = p.0.cars_in_range l.i t in
    let y = p.0.columns_in_range j (p.1.inside l.i t) in (
      omega (arith, t),
      every_step
          (λ (k : ℕ). equals (price_at a.u.now k) (price_at a.v.now (column_of a.columns.now k))
          (cell_at a.cells.now a.w k (column_of a.columns.now k)))
          l.i l.invariant.1
          (ap (λ (b : Bool). l.ok && b)
          (c.equals-ok.ensures ∙ ap₂ (λ (s r : ℤ). equals s r (cell_at a.cells.now a.w l.i j)) (same_price _ x) (same_price _ y))),
    )
