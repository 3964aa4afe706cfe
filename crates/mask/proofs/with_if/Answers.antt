-- mask::with_if meets its contract.
use Rattle.mask.specs.UpTo.{with_here, with_none}
use Rattle.mask.proofs.with_if.Goals as goal

pub returns-then-b : goal.returns-then-b
returns-then-b c = let a = c.args in with_here a.mask a.j c.if-b.true c.with.ensures

pub returns-else-b : goal.returns-else-b
returns-else-b c = let a = c.args in with_none a.mask a.j c.ranges.mask.fits c.if-b.false
