-- dispatch::with_bonus meets its contract.
use Rattle.dispatch.specs.Waits.{with_bonus}
use Rattle.dispatch.proofs.with_bonus.Goals as goal

pub returns-then-weight : goal.returns-then-weight
unfolding with_bonus
returns-then-weight c = simp c.if-weight.true c.apply_fairness_bonus.ensures

pub returns-else-weight : goal.returns-else-weight
unfolding with_bonus
returns-else-weight c = simp c.if-weight.false
