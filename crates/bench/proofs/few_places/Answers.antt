-- bench::few_places meets its contract.
use Rattle.bench.specs.PendingStops.{few_places}
use mathlib.Core.Path.{refl}
use Rattle.bench.proofs.few_places.Goals as goal

pub returns : goal.returns
unfolding few_places
returns c = refl
