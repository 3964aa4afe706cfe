-- prices::zero_or_less meets its contract.
use mathlib.Core.Path.{ap}
use lib.IntN.{ℤ, pos}
use lib.Signed.{le_z}
use mir.Facts.{to_z-of_z}
use Rattle.prices.specs.Price.{zero_or_less}
use Rattle.prices.proofs.zero_or_less.Goals as goal

pub returns : goal.returns
unfolding zero_or_less
returns c = ap (λ (z : ℤ). le_z z (pos 0)) (to_z-of_z c.ranges.x)
