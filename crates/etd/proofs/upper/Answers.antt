-- etd::upper meets its contract.

use Rattle.etd.proofs.upper.Goals as goal

pub returns-then-x-p : goal.returns-then-x-p
returns-then-x-p c = simp c.if-x-p.true

pub returns-else-x-p : goal.returns-else-x-p
returns-else-x-p c = simp c.if-x-p.false
