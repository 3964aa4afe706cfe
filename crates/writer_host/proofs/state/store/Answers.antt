-- writer_host::state::store meets its contract.
use Rattle.writer_host.specs.Host.{stored}
use Rattle.writer_host.proofs.state.store.Goals as goal

pub returns : goal.returns
returns c = stored c.args.c c.args.state.now c.requires
