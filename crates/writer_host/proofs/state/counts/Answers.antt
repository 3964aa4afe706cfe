-- writer_host::state::counts meets its contract.
use mathlib.Core.Path.{sym, ◌∙◌}
use Rattle.writer_host.specs.Host.{counts_or, state_long}
use Rattle.writer_host.proofs.state.counts.Goals as goal

pub returns-then-not-is_state : goal.returns-then-not-is_state
unfolding counts_or
returns-then-not-is_state c = rw (← c.is_state.ensures, c.if-not-is_state.true)

pub returns-then-not-known : goal.returns-then-not-known
unfolding counts_or
returns-then-not-known c = rw (← c.is_state.ensures, c.if-not-is_state.false, c.if-not-known.true)

pub counts_in-requires : goal.counts_in-requires
counts_in-requires c = state_long c.args.state.now (sym c.is_state.ensures ∙ c.if-not-is_state.false)

pub returns : goal.returns
unfolding counts_or
returns c = rw (← c.is_state.ensures, c.if-not-is_state.false, c.if-not-known.false, c.counts_in.ensures)
