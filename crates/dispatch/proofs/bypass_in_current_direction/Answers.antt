-- dispatch::bypass_in_current_direction meets its contract.
use Rattle.dispatch.proofs.bypass_in_current_direction.Goals as goal

pub returns-in-None : goal.returns-in-None
returns-in-None c = simp c.in-None.is

pub returns-in-Some : goal.returns-in-Some
returns-in-Some c = simp c.in-Some.is c.bypass_to.ensures
