-- dispatch::finite_rank meets its contract.
use Rattle.dispatch.specs.FiniteRank.{finite_rank}
use Rattle.dispatch.proofs.finite_rank.Goals as goal

pub returns-then-finite : goal.returns-then-finite
unfolding finite_rank
returns-then-finite c = simp (← c.finite.ensures, c.if-finite.true)

pub returns-else-finite : goal.returns-else-finite
unfolding finite_rank
returns-else-finite c = simp (← c.finite.ensures, c.if-finite.false)
