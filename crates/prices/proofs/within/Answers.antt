-- prices::within meets its contract.
use mathlib.Core.Path.{ap₂}
use lib.Signed.{le_z}
use Rattle.prices.specs.Price.{within}
use Rattle.prices.specs.PriceLaws.{sum_is, sum_room, cell_is}
use Rattle.prices.proofs.within.Goals as goal

pub overflow_add-result : goal.overflow_add-result
overflow_add-result c = sum_room c.args.x c.args.y c.ranges.x c.ranges.y c.requires.0 c.requires.1

pub returns : goal.returns
unfolding within
returns c =
    ap₂ le_z (sum_is c.args.x c.args.y c.ranges.x c.ranges.y c.requires.0 c.requires.1) (cell_is c.args.cell c.requires.2)
