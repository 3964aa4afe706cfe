-- multiply_add::pack::sticky meets its contract.
use Rattle.std.proofs.Common.{arith}
use Rattle.multiply_add.proofs.PackLaws.{sticky_none, sticky_some}
use Rattle.multiply_add.proofs.pack.sticky.Goals as goal

pub returns-then-n-eq0 : goal.returns-then-n-eq0
returns-then-n-eq0 c = sticky_none c.args.n.hi c.args.n.lo c.if-n-eq0.true

pub returns-else-n-eq0 : goal.returns-else-n-eq0
returns-else-n-eq0 c = sticky_some c.args.n.hi c.args.n.lo (omega arith) c.if-n-eq0.false
