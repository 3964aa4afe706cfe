-- writer_host::state::is_within meets its contract.
use mathlib.Core.Path.{refl}
use Rattle.writer_host.specs.Host.{is_within}
use Rattle.writer_host.proofs.state.is_within.Goals as goal

pub returns : goal.returns
unfolding is_within
returns c = refl
