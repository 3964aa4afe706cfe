-- etd::existing_rider_delay meets its contract.
use Rattle.etd.specs.Pairs.{delay_in}
use Rattle.laws.specs.Folds.{fold, fold_step, ended}
use lib.Ieee.{binary64, add}
use mathlib.Core.Path.{refl, ap}
use native.Mathlib.Omega.{arith}
use Rattle.etd.proofs.existing_rider_delay.Goals as goal

pub loop-k-init : goal.loop-k-init
unfolding delay_in fold
loop-k-init c = (omega arith, refl)

pub loop-k-preserved : goal.loop-k-preserved
unfolding delay_in
loop-k-preserved c = (omega arith, fold_step _ _ _ c.loop-k.invariant.1 (ap (add binary64 _) (rw c.point.ensures at c.extra_delay-delay.ensures)))

pub returns : goal.returns
returns c = ended (delay_in _ _ _ _ _) c.loop-k.invariant.0 c.loop-k-test.false c.loop-k.invariant.1
