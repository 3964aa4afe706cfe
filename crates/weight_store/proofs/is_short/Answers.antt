-- weight_store::is_short meets its contract.
use Rattle.weight_store.specs.Passed.{short_bytes}
use Rattle.weight_store.proofs.is_short.Goals as goal

pub returns : goal.returns
returns c = rw c.from.ensures (short_bytes _ _)
