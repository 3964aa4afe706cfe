-- etd::is_below meets its contract.

use Rattle.etd.proofs.is_below.Goals as goal

pub returns-then-q-hi : goal.returns-then-q-hi
returns-then-q-hi c = rw c.if-q-hi.true

pub returns-else-q-hi : goal.returns-else-q-hi
returns-else-q-hi c = rw c.if-q-hi.false
