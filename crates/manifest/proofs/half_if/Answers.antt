-- manifest::half_if meets its contract.
use Rattle.manifest.specs.Stops.{borrowed, borrowed_le}
use native.Mathlib.Omega.{arith}
use Rattle.manifest.proofs.half_if.Goals as goal

pub overflow_mul-result : goal.overflow_mul-result
overflow_mul-result c = omega (arith, borrowed_le c.args.half c.args.a c.args.b (omega arith) (omega arith))

pub returns : goal.returns
returns c = borrowed c.args.half c.args.a c.args.b (omega arith) (omega arith)
