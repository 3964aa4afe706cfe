-- weight_store::is_there meets its contract.
use Rattle.weight_store.specs.Entries.{byte_there}
use Rattle.weight_store.proofs.is_there.Goals as goal

pub returns : goal.returns
returns c = rw c.from.ensures (byte_there _ _)
