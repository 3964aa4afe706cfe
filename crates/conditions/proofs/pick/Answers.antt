-- conditions::pick meets its contract.
use mathlib.Core.Path.{refl}
use Rattle.layout.specs.Verdict.{pick}
use Rattle.conditions.proofs.pick.Goals as goal

pub returns-then-b : goal.returns-then-b
unfolding pick
returns-then-b c = rw c.if-b.true refl

pub returns-else-b : goal.returns-else-b
unfolding pick
returns-else-b c = rw c.if-b.false refl
