-- rsr::with_load meets its contract.
use mathlib.Core.Path.{◌≡◌, refl, ◌∙◌}
use mathlib.Core.Bool.{Bool, true, false, not, ◌&&◌}
use lib.Ieee.{Float, lt}
use Rattle.fp.specs.Num.{zero, over}
use Rattle.multiply_add.specs.MulAdd.{mul_add}
use Rattle.rsr.specs.Rsr.{held_ratio, with_load}
use Rattle.rsr.proofs.with_load.Goals as goal

loaded : (cost weight : Float) (idle : Bool) (load capacity ratio : Float) → (lt zero weight && (not idle && lt zero capacity)) ≡ true
    → ratio ≡ held_ratio (over load capacity) → mul_add weight ratio cost ≡ with_load cost weight idle load capacity
unfolding with_load
loaded cost weight idle load capacity ratio h e = rw (h, e) refl

without : (cost weight : Float) (idle : Bool) (load capacity : Float) → (lt zero weight && (not idle && lt zero capacity)) ≡ false
    → cost ≡ with_load cost weight idle load capacity
unfolding with_load
without cost weight idle load capacity h = rw h refl

pub returns-then-weight-idle : goal.returns-then-weight-idle
returns-then-weight-idle c = c.mul_add.ensures ∙ loaded _ _ _ _ _ _ c.if-weight-idle.true c.held_ratio.ensures

pub returns-else-weight-idle : goal.returns-else-weight-idle
returns-else-weight-idle c = without _ _ _ _ _ c.if-weight-idle.false
