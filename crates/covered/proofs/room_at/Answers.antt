-- covered::room_at meets its contract.
use Rattle.layout.specs.Records.{car_of}
use mathlib.Core.Path.{refl}
use Rattle.covered.proofs.room_at.Goals as goal

pub returns : goal.returns
unfolding car_of
returns c = rw (c.double_at-capacity.ensures, c.double_at.ensures) refl
