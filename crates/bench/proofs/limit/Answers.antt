-- bench::limit meets its contract.
use Rattle.bits.specs.Field.{field_lt}
use Rattle.layout.specs.Records.{limit_of}
use native.Mathlib.Omega.{arith}
use Rattle.bench.proofs.limit.Goals as goal

pub overflow_cast-result : goal.overflow_cast-result
unfolding limit_of
overflow_cast-result c = omega (arith, c.limit.ensures, field_lt c.args.s.now 48 16)
