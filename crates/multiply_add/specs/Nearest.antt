-- The words of what `mul_add` of finite doubles is, without its formula: the exact x × y + z, and how far a double is off it. The theorems are in
-- proofs/Nearest. Assumes nothing.
use Rattle.std.specs.Prelude.{◌≡◌, ℕ, ◌*◌, ◌/◌, ◌%◌, ◌^◌, Bool, true, false, T, ℤ, pos, negsuc, ◌+ℤ◌, ◌-ℤ◌, ◌*ℤ◌, nat_le, to_bits, unsigned_abs, Float}
use Rattle.std.proofs.Common.{ap, ◌∙◌, mul-div_cancel}
use Rattle.std.proofs.Math.Nat.{mul-mod_left}
use Rattle.std.specs.Float.{nan, inf, fin, binary64}
use Rattle.std.specs.Float.Ieee.{up, down, fits}
use Rattle.std.specs.Float.Ieee.Fits.{down_pos}
use Rattle.std.specs.Float.Ieee.Exact.{HasValue}
use Rattle.fp.specs.Num.{finite}
use Rattle.fp.specs.Fields.{sign_one}
use Rattle.rounding.specs.Unpack.{significand_of, exponent_of, value_of}
use Rattle.rounding.specs.Signed.{signed}

-- A finite double as a whole number of 2 ^ -1074, the least of them; `least_whole` says that the division leaves no rest. What is not finite has no
-- such number, and is not asked for.
abbrev pub in_least : Float → ℤ
in_least nan = pos 0
in_least (inf s) = pos 0
in_least (fin s m e) = signed s (m * up e * 2 ^ 1074 / down e)

-- x × y + z, and |w - (x × y + z)|, as whole numbers of 2 ^ -2148
abbrev pub exact : Float → Float → Float → ℤ
exact x y z = in_least x *ℤ in_least y +ℤ in_least z *ℤ pos (2 ^ 1074)

abbrev pub off : Float → Float → Float → Float → ℕ
off w x y z = unsigned_abs (in_least w *ℤ pos (2 ^ 1074) -ℤ exact x y z)

abbrev pub negative : ℤ → Bool
negative (pos n) = false
negative (negsuc n) = true

-- a finite double
abbrev pub Double : Float → Type 0
Double x = T (fits binary64 x) × (finite x ≡ true)

-- ---- what it comes to, by values

pub least_is : (y : Float) (s : Bool) (n : ℕ) → HasValue y s n (2 ^ 1074) → in_least y ≡ signed s n
least_is nan s n h = absurd h
least_is (inf t) s n h = absurd h
least_is (fin t m e) s n h =
    ap (λ (b : Bool). signed b (m * up e * 2 ^ 1074 / down e)) h.0
    ∙ ap (λ (k : ℕ). signed s (k / down e)) h.1 ∙ ap (signed s) (mul-div_cancel n (down_pos e))

-- by its bits, a finite double is ±sizeOf in least doubles
abbrev pub sign_of : Float → Bool
sign_of x = nat_le sign_one (to_bits binary64 x)

abbrev pub size_of : Float → ℕ
size_of x = significand_of (to_bits binary64 x) * 2 ^ exponent_of (to_bits binary64 x)

pub value : (x : Float) → Double x → HasValue x (sign_of x) (size_of x) (2 ^ 1074)
value x X = value_of x X.0 X.1

pub least_whole : (s : Bool) (m : ℕ) (e : ℤ) → Double (fin s m e) → m * up e * 2 ^ 1074 % down e ≡ 0
least_whole s m e X = ap (λ (k : ℕ). k % down e) (value (fin s m e) X).1 ∙ mul-mod_left (size_of (fin s m e)) (down e)
