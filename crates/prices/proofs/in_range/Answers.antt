-- prices::in_range meets its contract.
use Rattle.std.proofs.Common.{to_z-of_z}
use Rattle.prices.specs.Price.{in_range}
use Rattle.prices.proofs.in_range.Goals as goal

pub returns : goal.returns
unfolding in_range
returns c = rw (c.unsigned_abs.ensures.value, to_z-of_z c.ranges.x)
