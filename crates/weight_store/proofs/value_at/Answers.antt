-- weight_store::value_at meets its contract.
use Rattle.weight_store.specs.Keys.{value_of}
use Rattle.weight_store.proofs.value_at.Goals as goal

pub returns : goal.returns
unfolding value_of
returns c = rw c.from.ensures at c.field.ensures.is
