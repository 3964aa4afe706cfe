-- rows::waiters_at meets its contract.
use Rattle.rows.specs.Gathered.{waiters_at}
use mathlib.Core.Path.{refl}
use Rattle.rows.proofs.waiters_at.Goals as goal

pub returns : goal.returns
unfolding waiters_at
returns c = rw (c.has.ensures, c.has-2.ensures) refl
