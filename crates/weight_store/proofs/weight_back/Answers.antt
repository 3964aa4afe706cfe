-- weight_store::weight_back meets its contract.
use Rattle.weight_store.specs.Values.{weight_back}
use Rattle.weight_store.proofs.weight_back.Goals as goal

pub returns : goal.returns
unfolding weight_back
returns c = cc
