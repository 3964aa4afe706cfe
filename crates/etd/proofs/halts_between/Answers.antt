-- etd::halts_between meets its contract.
use Rattle.etd.specs.Halts.{halts_between}
use Rattle.etd.proofs.halts_between.Goals as goal

pub returns-then-x-p : goal.returns-then-x-p
unfolding halts_between
returns-then-x-p c = rw c.if-x-p.true c.less.ensures

pub returns-else-x-p : goal.returns-else-x-p
unfolding halts_between
returns-else-x-p c = rw c.if-x-p.false c.less-else-x-p.ensures
