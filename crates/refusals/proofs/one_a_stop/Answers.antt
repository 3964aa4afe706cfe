-- refusals::one_a_stop meets its contract.
use Rattle.refusals.proofs.one_a_stop.Goals as goal

pub returns : goal.returns
returns c = cc
