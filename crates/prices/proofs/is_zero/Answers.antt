-- prices::is_zero meets its contract.
use native.Mathlib.Omega.{arith}
use Rattle.prices.specs.Price.{is_zero}
use Rattle.prices.specs.PriceLaws.{same_bits}
use Rattle.prices.proofs.is_zero.Goals as goal

pub returns : goal.returns
unfolding is_zero
returns c = same_bits c.args.x 0 c.ranges.x (omega arith)
