-- coverage::Serving::capacity_at meets its contract.
use Rattle.coverage.specs.Coverage.{capacity_step, capacity_by}
use Rattle.fp.specs.Num.{zero}
use Rattle.laws.specs.Folds.{fold, fold_step, ended}
use lib.ListN.{length}
use mathlib.Core.Path.{refl}
use native.Mathlib.Omega.{arith}
use Rattle.coverage.proofs.Serving.capacity_at.Goals as goal

pub loop-line-init : goal.loop-line-init
unfolding capacity_by fold
loop-line-init c = (omega arith, refl)

pub loop-line-preserved : goal.loop-line-preserved
unfolding capacity_by
loop-line-preserved c =
    let a = c.args in
    let l = c.loop-line in (
      omega arith,
      fold_step (capacity_step a.self.now.targets.now a.self.now.lines.now a.self.now.rooms.now (length a.self.now.targets.now) a.self.now.line_ids.now a.id) zero l.line-index l.invariant.1 c.line_room-a.ensures,
    )

pub returns : goal.returns
returns c =
    let a = c.args in
    ended (λ k. capacity_by a.self.now.targets.now a.self.now.lines.now a.self.now.rooms.now (length a.self.now.targets.now) a.self.now.line_ids.now k a.id) c.loop-line.invariant.0 c.loop-line-test.false c.loop-line.invariant.1
