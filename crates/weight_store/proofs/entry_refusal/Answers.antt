-- weight_store::entry_refusal meets its contract.
use Rattle.weight_store.specs.Keys.{number_read}
use Rattle.weight_store.proofs.entry_refusal.Goals as goal

pub returns : goal.returns
returns c = number_read _ _ c.key_at.ensures c.value_at.ensures c.refusal_of.ensures
