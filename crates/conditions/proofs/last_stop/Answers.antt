-- conditions::last_stop meets its contract.
use Rattle.layout.specs.Refusals.{last_stop}
use borrow.Author.Tests.{eq-eqb, ne_eqb}
use Rattle.conditions.proofs.last_stop.Goals as goal

pub returns-then-n-eq0 : goal.returns-then-n-eq0
unfolding last_stop
returns-then-n-eq0 c = simp (eq-eqb _ _ c.if-n-eq0.true)

pub returns : goal.returns
unfolding last_stop
returns c = simp (ne_eqb _ _ c.if-n-eq0.false) cc
