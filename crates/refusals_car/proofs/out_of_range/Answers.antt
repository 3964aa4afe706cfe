-- refusals_car::out_of_range meets its contract.
use Rattle.layout.specs.Refusals.{refusal11_car}
use Rattle.refusals_car.proofs.out_of_range.Goals as goal

pub returns : goal.returns
unfolding refusal11_car
returns c = cc
