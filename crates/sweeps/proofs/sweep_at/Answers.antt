-- sweeps::sweep_at meets its contract.
use Rattle.layout.specs.Records.{car_of}
use mathlib.Core.Path.{refl}
use Rattle.sweeps.proofs.sweep_at.Goals as goal

pub returns : goal.returns
unfolding car_of
returns c w = rw (c.from.ensures.0, c.from-2.ensures.0, c.flag.ensures, c.flag-2.ensures) refl
