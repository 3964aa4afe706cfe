-- grade::answer meets its contract.
use mathlib.Core.Path.{refl}
use Rattle.grade.specs.Graded.{graded}
use Rattle.grade.proofs.answer.Goals as goal

pub returns-then-least : goal.returns-then-least
unfolding graded
returns-then-least c = rw c.if-least.true refl

pub returns-else-least : goal.returns-else-least
unfolding graded
returns-else-least c = rw c.if-least.false refl
