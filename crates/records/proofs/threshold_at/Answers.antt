-- records::threshold_at meets its contract.
use Rattle.records.proofs.threshold_at.Goals as goal

pub returns-then-flag : goal.returns-then-flag
returns-then-flag c = simp (← c.flag.ensures, c.if-flag.true, c.double_at.ensures)

pub returns-else-flag : goal.returns-else-flag
returns-else-flag c = simp (← c.flag.ensures, c.if-flag.false)
