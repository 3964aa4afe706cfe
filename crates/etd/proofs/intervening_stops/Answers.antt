-- etd::intervening_stops meets its contract.
use Prim.Native.Nat.{ℕ, ◌+◌}
use mathlib.Core.Path.{refl, ap, ◌∙◌}
use mathlib.Core.Bool.{Bool, ◌&&◌}
use native.Mathlib.Omega.{arith}
use lib.ListN.{get_or}
use lib.Ieee.{nan}
use Rattle.laws.specs.Bools.{bit-lt}
use Rattle.laws.specs.Folds.{count, count_step, ended}
use Rattle.mask.specs.Mask.{has}
use Rattle.etd.specs.Etd.{intervenes}
use Rattle.etd.specs.Pairs.{intervening_in}
use Rattle.etd.proofs.intervening_stops.Goals as goal

pub loop-k-init : goal.loop-k-init
unfolding intervening_in count
loop-k-init c = (omega arith, omega arith, refl)

pub overflow_add-between : goal.overflow_add-between
overflow_add-between c =
    let a = c.args in
    let l = c.loop-k in
    omega (arith, bit-lt (c.has.result && intervenes a.x a.p (get_or a.stops.now.points.now l.k nan)), c.is_between-between.ensures)

pub loop-k-preserved : goal.loop-k-preserved
unfolding intervening_in
loop-k-preserved c =
    let a = c.args in
    let l = c.loop-k in
    let h = c.has.ensures in (
      omega arith,
      omega (arith, bit-lt (c.has.result && intervenes a.x a.p (get_or a.stops.now.points.now l.k nan)), c.is_between-between.ensures),
      ap (λ (z : ℕ). l.between + z) c.is_between-between.ensures
          ∙ count_step (λ k. has a.demand k && intervenes a.x a.p (get_or a.stops.now.points.now k nan)) l.k l.invariant.2
          (ap (λ (b : Bool). b && intervenes a.x a.p (get_or a.stops.now.points.now l.k nan)) h),
    )

pub returns : goal.returns
returns c = ended (intervening_in _ _ _ _) c.loop-k.invariant.0 c.loop-k-test.false c.loop-k.invariant.2
