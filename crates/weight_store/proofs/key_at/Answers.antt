-- weight_store::key_at meets its contract.
use Rattle.weight_store.specs.Keys.{key_of}
use Rattle.weight_store.proofs.key_at.Goals as goal

pub returns : goal.returns
unfolding key_of
returns c = rw c.from.ensures at c.field.ensures.is
