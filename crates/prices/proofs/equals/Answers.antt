-- prices::equals meets its contract.
use native.Mathlib.Omega.{arith}
use Rattle.std.proofs.Common.{to_z-of_z}
use Rattle.prices.specs.Price.{equals}
use Rattle.prices.specs.PriceLaws.{same_bits, sum_room, sum_fits}
use Rattle.prices.proofs.equals.Goals as goal

pub overflow_add-result : goal.overflow_add-result
overflow_add-result c = sum_room c.args.x c.args.y c.ranges.x c.ranges.y c.requires.0 c.requires.1

pub returns : goal.returns
unfolding equals
returns c =
    rw (to_z-of_z c.ranges.x, to_z-of_z c.ranges.y)
    (same_bits _ c.args.cell (sum_fits c.args.x c.args.y c.requires.0 c.requires.1) (omega (arith, c.requires.2)))
