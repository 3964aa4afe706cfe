-- manifest::Stops::place meets its contract.
use Rattle.manifest.specs.Stops.{place_at}
use borrow.Author.Tests.{lt-ltb, le-ltb}
use Rattle.manifest.proofs.Stops.place.Goals as goal

pub returns-then-index-self : goal.returns-then-index-self
unfolding place_at
returns-then-index-self c = simp (lt-ltb _ _ c.if-index-self.true, c.point.ensures)

pub returns-else-index-self : goal.returns-else-index-self
unfolding place_at
returns-else-index-self c = simp (le-ltb _ _ c.if-index-self.false)
