-- cars::blank meets its contract.
use mathlib.Core.Path.{refl}
use Rattle.cars.proofs.blank.Goals as goal

pub returns : goal.returns
returns c = refl
