-- components::ModeFromBool::from meets its contract.
use Rattle.components.specs.Codes.{mode_of}
use Rattle.components.proofs.ModeFromBool.from.Goals as goal

pub returns-then-lenient : goal.returns-then-lenient
unfolding mode_of
returns-then-lenient c = (rw c.if-lenient.true, rw c.if-lenient.true)

pub returns-else-lenient : goal.returns-else-lenient
unfolding mode_of
returns-else-lenient c = (rw c.if-lenient.false, rw c.if-lenient.false)
