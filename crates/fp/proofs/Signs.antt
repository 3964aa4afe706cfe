-- What the code's tests tell: of a sign, of a zero's one form, of the infinities, of a NaN's pattern. Assumes nothing.
use Rattle.std.proofs.Common.{◌≡◌, ℕ, true, false, sym, refl, ◌∙◌, true≢false}
use lib.Ieee.{Float, nan, inf, fin, binary64, of_bits, is_nan, nan_bits}
use lib.Ieee.Bits.{nan_bits_is}
use Rattle.std.specs.Float.{float_with_sign, float_is_finite}
use Rattle.fp.specs.Fields.{nan_only}
use Rattle.fp.specs.Num.{abs, finite}

-- ---- abs and finite: std's words say the same

pub abs_is : (x : Float) → float_with_sign false x ≡ abs x
unfolding float_with_sign
abs_is nan = refl
abs_is (inf s) = refl
abs_is (fin s m e) = refl

pub finite_is : (x : Float) → float_is_finite x ≡ finite x
unfolding float_is_finite
finite_is nan = refl
finite_is (inf s) = refl
finite_is (fin s m e) = refl

-- ---- a NaN

-- 0.0 / 0.0 is what every NaN pattern stands for
pub nan_made : (b : ℕ) → nan_bits binary64 b ≡ true → nan ≡ of_bits binary64 b
nan_made b e = sym (nan_only (of_bits binary64 b) (sym (nan_bits_is binary64 b) ∙ e))
