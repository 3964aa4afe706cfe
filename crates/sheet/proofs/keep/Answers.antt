-- sheet::keep meets its contract.
use Rattle.sheet.specs.Kept.{kept}
use Rattle.sheet.proofs.keep.Goals as goal

pub bounds-ids-n : goal.bounds-ids-n
bounds-ids-n c = c.requires c.if-ours.true

pub returns-then-ours : goal.returns-then-ours
unfolding kept
returns-then-ours c = rw c.if-ours.true

pub returns-else-ours : goal.returns-else-ours
unfolding kept
returns-else-ours c = rw c.if-ours.false
