-- manifest::Stops::position meets its contract.
use Rattle.manifest.specs.Stops.{position_in}
use Rattle.manifest.proofs.Stops.position.Goals as goal

pub returns : goal.returns
unfolding position_in
returns c = cc
