-- shown::columns_priced meets its contract.
use Prim.Native.Nat.{ℕ}
use mathlib.Core.Path.{refl, ap, ap₂, ◌∙◌}
use mathlib.Core.Bool.{Bool, ◌&&◌, ◌||◌}
use native.Mathlib.Omega.{arith}
use Rattle.laws.specs.Folds.{every, every_step}
use Rattle.prices.specs.Price.{zero_or_less, is_zero}
use Rattle.prices.specs.PriceLaws.{same_price}
use Rattle.shown.specs.Shown.{taken, columns_priced}
use Rattle.shown.specs.Fits.{price_at, column_of}
use Rattle.shown.proofs.columns_priced.Goals as goal

pub loop-j-init : goal.loop-j-init
unfolding columns_priced every
loop-j-init c = (omega arith, refl)

pub loop-j-preserved : goal.loop-j-preserved
unfolding columns_priced taken
loop-j-preserved c =
    let a = c.args in
    let l = c.loop-j in
    let t = c.loop-j-test.true in
    let y = same_price (price_at a.v.now l.j) (c.requires.3 l.j t) in (
      omega (arith, t),
      every_step (λ (k : ℕ). zero_or_less (price_at a.v.now k) && (taken a.n (column_of a.columns.now) k || is_zero (price_at a.v.now k)))
          l.j l.invariant.1
          (ap (λ (b : Bool). l.ok && b)
          (ap₂ (λ (p q : Bool). p && q) (c.zero_or_less.ensures ∙ ap zero_or_less y)
          (ap₂ (λ (p q : Bool). p || q) c.taken-some.ensures (c.is_zero.ensures ∙ ap is_zero y)))),
    )
