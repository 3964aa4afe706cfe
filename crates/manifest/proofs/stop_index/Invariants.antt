-- manifest::stop_index meets its contract.
use Rattle.manifest.specs.Stops.{Narrowed}
use Rattle.manifest.proofs.stop_index.Given as goal

abbrev pub invariant-loop-size : goal.invariant-loop-size
invariant-loop-size l = Narrowed l.ids l.n l.id l.base l.size

abbrev pub decreases-loop-size : goal.decreases-loop-size
decreases-loop-size l = l.size
