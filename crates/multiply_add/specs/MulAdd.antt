-- a × b + c rounded once: IEEE 754's fusedMultiplyAdd at binary64, to nearest and ties to even. Rust's f64::mul_add. Assumes nothing.
use Rattle.std.specs.Prelude.{◌*◌, Float}
use Rattle.std.specs.Float.{nan, inf, fin, binary64}
use Rattle.std.specs.Float.Ieee.{unlike, up, down, sum}
use Rattle.fp.specs.Num.{plus, times}

-- A finite double is ±m × up e / down e, where up e / down e is 2 ^ e. So the product of two is ±(m × up e × n × up d) / (down e × down d), exactly.
-- With it the third, ±(k × up g) / down g, is brought to the divisor down e × down d × down g. `sum` adds the two exactly and rounds once. A sum that
-- is exactly zero is -0 where both are negative, and +0 otherwise.
-- A NaN gives a NaN. Where a factor is infinite, the product is an infinity or a NaN, and nothing is rounded. Where only the third is infinite, it is
-- the result, however large the product.
unfoldable pub mul_add : Float → Float → Float → Float
mul_add nan y z = nan
mul_add (inf s) y z = plus (times (inf s) y) z
mul_add (fin s m e) nan z = nan
mul_add (fin s m e) (inf t) z = plus (times (fin s m e) (inf t)) z
mul_add (fin s m e) (fin t n d) nan = nan
mul_add (fin s m e) (fin t n d) (inf u) = inf u
mul_add (fin s m e) (fin t n d) (fin u k g) =
    sum binary64 (unlike s t) (m * up e * (n * up d) * down g) u (k * up g * (down e * down d)) (down e * down d * down g)
