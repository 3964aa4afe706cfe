-- coverage::Waiting::weight_at meets its contract.
use Rattle.coverage.specs.Coverage.{weight_step, weight_by}
use Rattle.fp.specs.Num.{zero}
use Rattle.laws.specs.Folds.{fold, fold_step, ended}
use mathlib.Core.Path.{refl}
use native.Mathlib.Omega.{arith}
use Rattle.coverage.proofs.Waiting.weight_at.Goals as goal

pub loop-w-init : goal.loop-w-init
unfolding weight_by fold
loop-w-init c = (omega arith, refl)

pub loop-w-preserved : goal.loop-w-preserved
unfolding weight_by
loop-w-preserved c =
    let a = c.args in
    let l = c.loop-w in
    (omega arith, fold_step (weight_step a.self.now.stops.now a.self.now.weights.now a.id) zero l.w l.invariant.1 c.add_if-a.ensures)

pub returns : goal.returns
returns c =
    let a = c.args in
    ended (λ k. weight_by a.self.now.stops.now a.self.now.weights.now k a.id) c.loop-w.invariant.0 c.loop-w-test.false c.loop-w.invariant.1
