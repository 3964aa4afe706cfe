-- refusals_policy::out_of_range meets its contract.
use Rattle.layout.specs.Refusals.{refusal11_policy}
use Rattle.refusals_policy.proofs.out_of_range.Goals as goal

pub returns : goal.returns
unfolding refusal11_policy
returns c = cc
