-- conditions::mass_at meets its contract.
use Rattle.conditions.proofs.mass_at.Goals as goal

pub returns : goal.returns
returns c = cc
