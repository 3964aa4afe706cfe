-- etd::is_between meets its contract.
use Rattle.etd.specs.Etd.{intervenes}
use Rattle.etd.proofs.is_between.Goals as goal

pub returns-then-demand-lo : goal.returns-then-demand-lo
unfolding intervenes
returns-then-demand-lo c = rw (← c.lesser-lo.ensures, ← c.upper-hi.ensures, c.if-demand-lo.true)

pub returns-else-demand-lo : goal.returns-else-demand-lo
unfolding intervenes
returns-else-demand-lo c = rw (← c.lesser-lo.ensures, ← c.upper-hi.ensures, c.if-demand-lo.false)
