-- writer_host::state::is_state meets its contract.
use borrow.Author.Tests.{le-leb, lt-leb}
use Rattle.writer_host.specs.Host.{is_state}
use Rattle.writer_host.proofs.state.is_state.Goals as goal

pub returns-then-state-lt9 : goal.returns-then-state-lt9
unfolding is_state
returns-then-state-lt9 c = rw (lt-leb 9 _ c.if-state-lt9.true)

pub returns : goal.returns
unfolding is_state
returns c = rw (le-leb 9 _ c.if-state-lt9.false, c.is_within.ensures, c.counts_in.ensures)
