-- manifest::lesser_if meets its contract.
use Rattle.manifest.proofs.lesser_if.Goals as goal

pub returns-then-counts : goal.returns-then-counts
returns-then-counts c = simp c.if-counts.true c.lesser.ensures
