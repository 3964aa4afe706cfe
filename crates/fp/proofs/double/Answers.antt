-- fp::double meets its contract.
use Rattle.std.proofs.Common.{◌%◌, ◌<◌, ◌≤◌, ◌∙◌, arith, le-ltb, lt-ltb}
use lib.Bits.{and_mask}
use lib.Ieee.{binary64, of_bits}
use lib.Ieee.Bits.{nan_bits_above}
use Rattle.fp.proofs.Signs.{nan_made}
use Rattle.fp.proofs.double.Goals as goal

-- at most infinity's pattern, the sign aside
pub float_from_bits-result : goal.float_from_bits-result
float_from_bits-result c =
    let most : c.args.b % 0x8000_0000_0000_0000 ≤ 0x7ff0_0000_0000_0000 = omega (arith, and_mask c.args.b 63) in
    rw (nan_bits_above, le-ltb _ _ most) tt

-- above it
pub returns-then-b-gt9218868437227405312 : goal.returns-then-b-gt9218868437227405312
unfolding of_bits
returns-then-b-gt9218868437227405312 c =
    let above : 0x7ff0_0000_0000_0000 < c.args.b % 0x8000_0000_0000_0000 = omega (arith, and_mask c.args.b 63) in
    nan_made c.args.b (nan_bits_above binary64 c.args.b ∙ lt-ltb _ _ above)
