-- etd::place_of meets its contract.
use lib.Ieee.{div}
use Rattle.etd.specs.Halts.{place_of}
use Rattle.etd.proofs.place_of.Goals as goal

pub returns-then-demand-q : goal.returns-then-demand-q
unfolding div place_of
returns-then-demand-q c = rw c.if-demand-q.true

pub returns-else-demand-q : goal.returns-else-demand-q
unfolding div place_of
returns-else-demand-q c = rw c.if-demand-q.false
