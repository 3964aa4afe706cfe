-- covered::with_named meets its contract.
use Rattle.covered.specs.Walk.{with_named}
use Rattle.covered.proofs.with_named.Goals as goal

pub returns : goal.returns
unfolding with_named
returns c = rw (← c.stop_index.ensures) c.with_index.ensures
