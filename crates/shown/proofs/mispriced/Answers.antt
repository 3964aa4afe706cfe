-- shown::mispriced meets its contract.
use Prim.Native.Nat.{ℕ}
use mathlib.Core.Path.{◌≡◌, refl, ap, ◌∙◌}
use mathlib.Core.Bool.{Bool, not, ◌||◌}
use native.Mathlib.Omega.{arith}
use mir.Syntax.{w64}
use mir.Facts.{to_z-of_z}
use Rattle.laws.specs.Folds.{any, any_step}
use Rattle.prices.specs.Price.{in_range}
use Rattle.shown.specs.Fits.{price_at}
use Rattle.shown.specs.Refusals.{other_count, same_count}
use Rattle.shown.proofs.mispriced.Goals as goal

pub returns-then-sent-k : goal.returns-then-sent-k
returns-then-sent-k c = let a = c.args in other_count a.k a.sent.now c.if-sent-k.true

pub loop-price-init : goal.loop-price-init
unfolding any
loop-price-init c = refl

pub loop-price-preserved : goal.loop-price-preserved
loop-price-preserved c =
    let a = c.args in
    let l = c.loop-price in
    any_step (λ (x : ℕ). not (in_range (price_at a.sent.now x))) l.price-index l.invariant
    (ap (λ (b : Bool). l.wrong || not b) (c.in_range.ensures ∙ ap in_range (to_z-of_z {w = w64} {z = price_at a.sent.now l.price-index} (record { sfits = c.in_range-arg-1.given }))))

pub returns : goal.returns
returns c =
    let a = c.args in
    let e : c.loop-price.price-index ≡ a.k = omega arith in
    same_count a.k a.sent.now c.if-sent-k.false (c.loop-price.invariant ∙ ap (any (λ (x : ℕ). not (in_range (price_at a.sent.now x)))) e)
