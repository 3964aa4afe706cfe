-- dispatch::can_board meets its contract.
use Rattle.dispatch.specs.Pairs.{can_board}
use mathlib.Core.Path.{refl}
use Rattle.dispatch.proofs.can_board.Goals as goal

pub returns : goal.returns
unfolding can_board
returns c = simp c.remaining_capacity-room.ensures refl
