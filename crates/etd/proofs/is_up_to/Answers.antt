-- etd::is_up_to meets its contract.

use Rattle.etd.proofs.is_up_to.Goals as goal

pub returns-then-lo-q : goal.returns-then-lo-q
returns-then-lo-q c = rw c.if-lo-q.true

pub returns-else-lo-q : goal.returns-else-lo-q
returns-else-lo-q c = rw c.if-lo-q.false
