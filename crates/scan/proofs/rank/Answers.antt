-- scan::rank meets its contract.
use Rattle.scan.specs.Scan.{rank_of}
use Rattle.scan.proofs.rank.Goals as goal

pub returns-then-useful : goal.returns-then-useful
unfolding rank_of
returns-then-useful c = simp c.if-useful.true c.rank.ensures

pub returns-else-useful : goal.returns-else-useful
unfolding rank_of
returns-else-useful c = simp c.if-useful.false
