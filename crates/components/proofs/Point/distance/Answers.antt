-- components::Point::distance meets its contract.
use Rattle.components.specs.Points.{distance}
use Rattle.components.proofs.Point.distance.Goals as goal

pub returns : goal.returns
unfolding distance
returns c = cc
