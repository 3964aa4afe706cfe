-- etd::extra_delay meets its contract.
use Rattle.etd.specs.Etd.{extra_delay}
use Rattle.etd.proofs.extra_delay.Goals as goal

pub returns : goal.returns
unfolding extra_delay
returns c = simp (← c.distance-direct.ensures, ← c.distance-2.ensures, ← c.distance.ensures, ← c.max_zero.ensures)
