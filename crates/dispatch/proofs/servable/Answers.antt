-- dispatch::servable meets its contract.
use Rattle.dispatch.specs.Pairs.{servable_by}
use Rattle.dispatch.proofs.servable.Goals as goal

pub returns-then-waiters : goal.returns-then-waiters
unfolding servable_by
returns-then-waiters c = simp c.if-waiters.true c.can_board.ensures

pub returns-else-waiters : goal.returns-else-waiters
unfolding servable_by
returns-else-waiters c = simp c.if-waiters.false
