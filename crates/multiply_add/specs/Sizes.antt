-- How large a multiply-add can be: as in fp: Sizes, by powers of two; and that it is a double. Assumes nothing.
use Rattle.std.specs.Prelude.{◌≡◌, ℕ, ◌+◌, ◌-◌, ◌*◌, ◌^◌, ◌<◌, ◌≤◌, Bool, cond, ◌&&◌, T, nat_lt, Float}
use Rattle.std.proofs.Common.{mul_assoc, mul_comm, mul_left_comm, mul-pos, mul-le-mul, mul-le-mul_right, le_trans, le_of_eq, sym, ap, ◌∙◌, pow-add, pow_mono}
use Rattle.std.specs.Bool.{beq}
use Rattle.std.specs.Float.{nan, inf, fin, binary64}
use Rattle.std.specs.Float.Ieee.{fits, round, sum, unlike, up, down}
use Rattle.std.specs.Float.Ieee.Fits.{down_pos, nan-fits, inf-fits, cond-fits, round-fits, add-fits}
use Rattle.fp.specs.Num.{times}
use Rattle.fp.specs.Inside.{AtMost}
use Rattle.fp.specs.Sizes.{sum_size}
use Rattle.multiply_add.specs.MulAdd.{mul_add}

exchange : (a b c d e : ℕ) → a * b * (c * d) * e ≡ a * c * (b * d * e)
exchange a b c d e = simp (mul_assoc, mul_left_comm)

-- a product and a sum of at most 2^k each
pub mul_add_size : (i j k : ℕ) (a b c : Float) → i + j ≤ k → k < 1023 → AtMost (2 ^ i) a → AtMost (2 ^ j) b → AtMost (2 ^ k) c
    → AtMost (2 ^ (k + 1)) (mul_add a b c)
unfolding mul_add
mul_add_size i j k nan b c l m p q r = absurd p
mul_add_size i j k (inf s) b c l m p q r = absurd p
mul_add_size i j k (fin s x e) nan c l m p q r = absurd q
mul_add_size i j k (fin s x e) (inf t) c l m p q r = absurd q
mul_add_size i j k (fin s x e) (fin t y d) nan l m p q r = absurd r
mul_add_size i j k (fin s x e) (fin t y d) (inf u) l m p q r = absurd r
mul_add_size i j k (fin s x e) (fin t y d) (fin u z g) l m p q r =
    sum_size k (unlike s t) (x * up e * (y * up d) * down g) u (z * up g * (down e * down d)) (down e * down d * down g) m
    (mul-pos (mul-pos (down_pos e) (down_pos d)) (down_pos g))
    (le_trans (mul-le-mul_right (down g) (mul-le-mul p q))
    (le_trans (le_of_eq (exchange (2 ^ i) (down e) (2 ^ j) (down d) (down g) ∙ ap (λ n. n * (down e * down d * down g)) (sym (pow-add 2 i j))))
    (mul-le-mul_right (down e * down d * down g) (pow_mono l))))
    (le_trans (mul-le-mul_right (down e * down d) r) (le_of_eq (turn (2 ^ k) (down g) (down e) (down d))))
  where
    turn : (a b c d : ℕ) → a * b * (c * d) ≡ a * (c * d * b)
    turn a b c d = simp (mul_assoc, mul_comm, mul_left_comm)

sum_fits : (s : Bool) (a : ℕ) (t : Bool) (b c : ℕ) → T (fits binary64 (sum binary64 s a t b c))
unfolding sum
sum_fits s a t b c =
    cond-fits binary64 (beq s t) (round binary64 s (a + b) c)
    (cond (nat_lt a b) (round binary64 t (b - a) c) (round binary64 (s && nat_lt b a) (a - b) c)) (round-fits binary64 s (a + b) c)
    (cond-fits binary64 (nat_lt a b) (round binary64 t (b - a) c) (round binary64 (s && nat_lt b a) (a - b) c) (round-fits binary64 t (b - a) c)
    (round-fits binary64 (s && nat_lt b a) (a - b) c))

pub mul_add_fits : (a b c : Float) → T (fits binary64 (mul_add a b c))
unfolding mul_add
mul_add_fits nan b c = nan-fits binary64
mul_add_fits (inf s) b c = add-fits binary64 (times (inf s) b) c
mul_add_fits (fin s x e) nan c = nan-fits binary64
mul_add_fits (fin s x e) (inf t) c = add-fits binary64 (times (fin s x e) (inf t)) c
mul_add_fits (fin s x e) (fin t y d) nan = nan-fits binary64
mul_add_fits (fin s x e) (fin t y d) (inf u) = inf-fits binary64 u
mul_add_fits (fin s x e) (fin t y d) (fin u z g) =
    sum_fits (unlike s t) (x * up e * (y * up d) * down g) u (z * up g * (down e * down d)) (down e * down d * down g)
