-- double_bits::bits_of meets its contract.
use Rattle.std.specs.Float.{binary64}
use Rattle.std.specs.Float.Ieee.{to_bits}
use Rattle.std.proofs.Common.{sym, ap}
use Rattle.fp.specs.Fields.{nan_only}
use Rattle.double_bits.proofs.bits_of.Goals as goal

pub returns-then-is_nan : goal.returns-then-is_nan
unfolding to_bits
returns-then-is_nan c = sym (ap (to_bits binary64) (nan_only c.args.x (sym c.if-is_nan.ensures.value)))
