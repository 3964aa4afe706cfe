-- conditions::placed_at meets its contract.
use Rattle.components.specs.Points.{is_placed}
use Rattle.conditions.proofs.placed_at.Goals as goal

pub returns : goal.returns
unfolding is_placed
returns c = cc
