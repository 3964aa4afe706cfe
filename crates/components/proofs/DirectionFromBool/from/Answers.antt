-- components::DirectionFromBool::from meets its contract.
use Rattle.components.specs.Codes.{direction_of}
use Rattle.components.proofs.DirectionFromBool.from.Goals as goal

pub returns-then-down : goal.returns-then-down
unfolding direction_of
returns-then-down c = (rw c.if-down.true, rw c.if-down.true)

pub returns-else-down : goal.returns-else-down
unfolding direction_of
returns-else-down c = (rw c.if-down.false, rw c.if-down.false)
