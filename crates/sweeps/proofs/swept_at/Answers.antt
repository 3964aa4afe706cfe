-- sweeps::swept_at meets its contract.
use Rattle.layout.specs.Records.{car_of}
use mathlib.Core.Path.{refl, ◌∙◌}
use Rattle.sweeps.proofs.swept_at.Goals as goal

pub returns : goal.returns
unfolding car_of
returns c w = c.sweep_after.ensures ∙ rw (c.sweep_at-sweep.ensures w, c.flag-listed.ensures, c.double_at-along.ensures) refl
