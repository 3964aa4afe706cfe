-- What the fields of a bit pattern stand for: the field x and the digits t are `in_units x t` times 2^-1074, the least double. Assumes nothing.
use Rattle.std.specs.Prelude.{◌≡◌, ℕ, zero, suc, ◌+◌, ◌*◌, ◌/◌, ◌%◌, ◌^◌, ◌<◌, ◌≤◌, Bool, true, false, not, T, nat_le, to_bits, refl, Float}
use Rattle.std.proofs.Common.{mul-one, mod-eq_of_lt, arith, sym, ◌∙◌, subst, true≢false, le-leb, ne_eqb}
use Rattle.std.specs.Float.{nan, inf, fin, binary64}
use Rattle.std.specs.Float.Ieee.{odd, fits, is_nan, ne, of_fields, of_bits}
use Rattle.std.specs.Float.Ieee.Bits.{of_bits-to_bits}
use Rattle.std.specs.Float.Ieee.Compare.{nan_differs}
use Rattle.std.specs.Float.Ieee.Exact.{HasValue, odd_sign}
use Rattle.std.proofs.lemmas.Bool.{lt-leb}

-- the lowest of a pattern's 11 field bits weighs this, and its sign that
abbrev pub field_one : ℕ
field_one = 0x10_0000_0000_0000

abbrev pub sign_one : ℕ
sign_one = 0x8000_0000_0000_0000

-- a field of 0 has no leading digit
abbrev pub in_units : ℕ → ℕ → ℕ
in_units zero t = t
in_units (suc x) t = (field_one + t) * 2 ^ x

-- a double that equals itself is no NaN, so its bits are settled
pub not_nan : (x : Float) → ne x x ≡ false → T (not (is_nan x))
unfolding is_nan
not_nan nan e = absurd (true≢false (sym nan_differs ∙ e))
not_nan (inf s) e = tt
not_nan (fin s m d) e = tt

-- the one NaN
pub nan_only : (x : Float) → is_nan x ≡ true → x ≡ nan
unfolding is_nan
nan_only nan e = refl
nan_only (inf s) e = absurd (true≢false (sym e))
nan_only (fin s m d) e = absurd (true≢false (sym e))

pub fields_value : (s : Bool) (x t : ℕ) → x < 2047 → HasValue (of_fields binary64 s x t) s (in_units x t) (2 ^ 1074)
unfolding of_fields
fields_value s zero t h = subst (λ (k : ℕ). HasValue (odd 53 s t 0 1074) s k (2 ^ 1074)) (mul-one t) (odd_sign 53 s t 0 1074)
fields_value s (suc x) t h = rw (ne_eqb (suc x) 2047 (λ (e : suc x ≡ 2047). omega arith)) (odd_sign 53 s (field_one + t) x 1074)

of_bits_is : (b : ℕ) → of_bits binary64 b ≡ of_fields binary64 (nat_le sign_one b) (b % sign_one / field_one) (b % field_one)
unfolding of_bits
of_bits_is b = refl

-- a pattern with its sign clear, and one with its sign set
pub of_bits_clear : (b : ℕ) → b < sign_one → of_bits binary64 b ≡ of_fields binary64 false (b / field_one) (b % field_one)
of_bits_clear b h = of_bits_is b ∙ rw (lt-leb sign_one b h, mod-eq_of_lt h)

pub of_bits_set : (b : ℕ) → sign_one ≤ b → of_bits binary64 b ≡ of_fields binary64 true (b % sign_one / field_one) (b % field_one)
of_bits_set b h = of_bits_is b ∙ rw (le-leb sign_one b h)

-- the value of a double by its own bits
pub bits_value : (y : Float) → T (fits binary64 y) → to_bits binary64 y < sign_one → to_bits binary64 y / field_one < 2047
    → HasValue y false (in_units (to_bits binary64 y / field_one) (to_bits binary64 y % field_one)) (2 ^ 1074)
bits_value y ok h k =
    subst (λ (z : Float). HasValue z false (in_units (to_bits binary64 y / field_one) (to_bits binary64 y % field_one)) (2 ^ 1074))
    (sym (of_bits_clear (to_bits binary64 y) h) ∙ of_bits-to_bits binary64 y ok) (fields_value false _ _ k)
