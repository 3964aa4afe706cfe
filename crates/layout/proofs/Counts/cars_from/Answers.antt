-- layout::Counts::cars_from meets its contract.
use native.Mathlib.Omega.{arith}
use Rattle.layout.proofs.Counts.cars_from.Goals as goal

pub returns : goal.returns
returns c = omega arith
