-- refusals_policy::any_weight meets its contract.
use Rattle.refusals_policy.proofs.any_weight.Goals as goal

pub returns : goal.returns
returns c = cc
