-- writer_host::state::counts_in meets its contract.
use mathlib.Core.Path.{refl}
use Rattle.writer_host.specs.Host.{counts_in}
use Rattle.writer_host.proofs.state.counts_in.Goals as goal

pub returns : goal.returns
unfolding counts_in
returns c = refl
