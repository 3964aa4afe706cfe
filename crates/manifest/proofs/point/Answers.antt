-- manifest::point meets its contract.
use Rattle.manifest.specs.Stops.{point_in}
use mathlib.Core.Path.{refl}
use Rattle.manifest.proofs.point.Goals as goal

pub returns : goal.returns
unfolding point_in
returns c = refl
