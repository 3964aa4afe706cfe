-- etd::door_cost meets its contract.
use Rattle.etd.specs.Etd.{door_cost}
use Rattle.etd.proofs.door_cost.Goals as goal

pub returns : goal.returns
unfolding door_cost
returns c = simp (c.natural.ensures, c.natural-ticks.ensures)
