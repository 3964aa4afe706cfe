-- How far apart two zeros are, of either sign: 0.0. Assumes nothing.
use Rattle.std.specs.Prelude.{ℕ, ◌-◌, ◌*◌, ◌<◌, ◌≡◌, Bool, true, false, not, ◌&&◌, ◌||◌, eqb, Float}
use Rattle.std.proofs.Common.{mul-pos, zero-mul, mul-one, arith, sym, ap, ◌∙◌, lit<, eqb-true}
use Rattle.std.specs.Bool.{beq}
use Rattle.std.specs.Float.{nan, inf, fin, binary64}
use Rattle.std.specs.Float.Ieee.{of_bits, up, down, round, neg, add, sub, eq}
use Rattle.std.specs.Float.Ieee.Fits.{down_pos}
use Rattle.std.specs.Float.Ieee.Scale.{round_same}
use Rattle.laws.specs.Bools.{never, both_left}
use Rattle.fp.specs.Num.{zero, apart}
use Rattle.fp.specs.Apart.{size, abs_sum}

-- "zero", of either sign
abbrev pub is_zero : Float → Bool
is_zero x = eq x zero

none : (a b : ℕ) → a ≡ 0 → a * b ≡ 0
none a b e = ap (λ (x : ℕ). x * b) e ∙ zero-mul b

size_none : (l : Bool) (a b : ℕ) → a ≡ 0 → b ≡ 0 → size l a b ≡ 0
size_none true a b p q = omega arith
size_none false a b p q = omega arith

-- the digits of a zero
zero_digits : (s : Bool) (m a b : ℕ) → (eqb (m * a * 1) (0 * 1 * b) && (beq s false || eqb (m * a * 1) 0)) ≡ true → m * a ≡ 0
zero_digits s m a b h =
    omega (arith, eqb-true (m * a * 1) (0 * 1 * b) (both_left (eqb (m * a * 1) (0 * 1 * b)) _ h), mul-one (m * a), zero-mul b)

pub apart_zeros : (x y : Float) → is_zero x ≡ true → is_zero y ≡ true → apart x y ≡ apart zero zero
unfolding apart sub add neg eq of_bits
apart_zeros nan y p q = never p
apart_zeros (inf s) y p q = never p
apart_zeros (fin s m e) nan p q = never q
apart_zeros (fin s m e) (inf t) p q = never q
apart_zeros (fin s m e) (fin t n d) p q =
    let a : m * up e * down d ≡ 0 = none (m * up e) (down d) (zero_digits s m (up e) (down e) p) in
    let b : n * up d * down e ≡ 0 = none (n * up d) (down e) (zero_digits t n (up d) (down d) q) in
    let z = size_none (beq s (not t)) (m * up e * down d) (n * up d * down e) a b in
    abs_sum s (m * up e * down d) (not t) (n * up d * down e) (down e * down d)
    ∙ ap (λ (k : ℕ). round binary64 false k (down e * down d)) z
    ∙ round_same binary64 false 0 (down e * down d) 0 1 (mul-pos (down_pos e) (down_pos d)) (lit< tt) (omega (arith, zero-mul (down e * down d)))
    ∙ sym (abs_sum false 0 true 0 1)
