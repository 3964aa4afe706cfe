-- manifest::Waiters::meet meets its contract.
use Rattle.manifest.proofs.Waiters.meet.Goals as goal

pub returns : goal.returns
returns c = rw c.position.ensures at c.with_rider.ensures
