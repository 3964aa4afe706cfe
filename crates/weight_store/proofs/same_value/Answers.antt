-- weight_store::same_value meets its contract.
use Rattle.weight_store.specs.Values.{same_value}
use mathlib.Core.Path.{refl}
use Rattle.weight_store.proofs.same_value.Goals as goal

pub returns : goal.returns
unfolding same_value
returns c = refl
