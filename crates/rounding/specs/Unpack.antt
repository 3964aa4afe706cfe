-- A finite double by its bits b: with the sign of the highest bit, significand_of b * 2 ^ exponent_of b times 2 ^ -1074, the least double. Assumes
-- nothing.
use Rattle.std.specs.Prelude.{◌≡◌, ◌⊎◌, ℕ, zero, suc, ◌+◌, ◌-◌, ◌*◌, ◌/◌, ◌%◌, ◌^◌, ◌≤◌, ◌<◌, Bool, true, false, cond, T, leb, eqb, Float}
use Rattle.std.proofs.Common.{sym, ap, ◌∙◌, subst, inl, inr, eq-or-lt_of_le, mul-one, add_comm, arith, ne_eqb}
use Rattle.std.proofs.Math.Nat.{eq_of_mul-eq-mul_right}
use Rattle.std.proofs.Math.Pow.{field}
use Rattle.std.specs.Float.{nan, inf, fin, binary64}
use Rattle.std.specs.Float.Ieee.{down, fits, of_fields, of_bits, to_bits}
use Rattle.std.specs.Float.Ieee.Fits.{down_pos}
use Rattle.std.specs.Float.Ieee.Exact.{HasValue}
use Rattle.std.specs.Float.Ieee.Bits.{of_bits-to_bits}
use Rattle.laws.specs.Bools.{less?, never}
use Rattle.fp.specs.Num.{finite}
use Rattle.fp.specs.Fields.{field_one, sign_one, in_units, fields_value}

-- the significand: its leading digit is there where the field is not 0
unfoldable pub significand_of : ℕ → ℕ
significand_of b = cond (eqb (b / field_one % 2048) 0) (b % field_one) (b % field_one + field_one)

-- the place of its last digit, in least doubles
unfoldable pub exponent_of : ℕ → ℕ
exponent_of b = b / field_one % 2048 - 1

pub significand_lt : (b : ℕ) → significand_of b < 2 ^ 53
unfolding significand_of
significand_lt b = go (eqb (b / field_one % 2048) 0)
  where
    go : (t : Bool) → cond t (b % field_one) (b % field_one + field_one) < 2 ^ 53
    go true = omega arith
    go false = omega arith

pub exponent_lt : (b : ℕ) → exponent_of b < 2047
unfolding exponent_of
exponent_lt b = omega arith

-- above the least exponent the leading digit is there
pub significand_lead : (b : ℕ) → (exponent_of b ≡ 0) ⊎ (2 ^ 52 ≤ significand_of b)
unfolding significand_of exponent_of
significand_lead b = go (less? (b / field_one % 2048) 1)
  where
    go : (b / field_one % 2048 < 1) ⊎ (1 ≤ b / field_one % 2048)
        → (b / field_one % 2048 - 1 ≡ 0) ⊎ (2 ^ 52 ≤ cond (eqb (b / field_one % 2048) 0) (b % field_one) (b % field_one + field_one))
    go (inl h) = inl (omega arith)
    go (inr h) = inr (rw (ne_eqb (b / field_one % 2048) 0 (λ (e : b / field_one % 2048 ≡ 0). omega arith)) (omega arith))

-- ---- the value

in_units_lem : (x t : ℕ) → in_units x t ≡ cond (eqb x 0) t (t + field_one) * 2 ^ (x - 1)
in_units_lem zero t = sym (mul-one t)
in_units_lem (suc x) t =
    rw (ne_eqb (suc x) 0 (λ (e : suc x ≡ 0). omega arith))
    (ap (λ (n : ℕ). n * 2 ^ x) (add_comm field_one t) ∙ ap (λ (n : ℕ). (t + field_one) * 2 ^ n) (less x))
  where
    less : (x : ℕ) → x ≡ suc x - 1
    less x = omega arith

fields_of : (b : ℕ) → of_bits binary64 b ≡ of_fields binary64 (leb sign_one b) (b / field_one % 2048) (b % field_one)
unfolding of_bits
fields_of b = ap (λ (x : ℕ). of_fields binary64 (leb sign_one b) x (b % field_one)) (field b 11 52)

-- a field of all ones is not finite
at_top : (s : Bool) (t : ℕ) → finite (of_fields binary64 s 2047 t) ≡ true → ⊥
unfolding of_fields
at_top s t f = go (eqb t 0) f
  where
    go : (b : Bool) → finite (cond b (inf s) nan) ≡ true → ⊥
    go true f = never f
    go false f = never f

below_top : (s : Bool) (x t : ℕ) → x < 2048 → finite (of_fields binary64 s x t) ≡ true → x < 2047
below_top s x t h f = go (eq-or-lt_of_le {n = x} {m = 2047} (omega arith))
  where
    go : (x ≡ 2047) ⊎ (x < 2047) → x < 2047
    go (inl e) = absurd (at_top s t (subst (λ (z : ℕ). finite (of_fields binary64 s z t) ≡ true) e f))
    go (inr l) = l

pub value_of : (y : Float) → T (fits binary64 y) → finite y ≡ true
    → HasValue y (leb sign_one (to_bits binary64 y)) (significand_of (to_bits binary64 y) * 2 ^ exponent_of (to_bits binary64 y)) (2 ^ 1074)
unfolding significand_of exponent_of
value_of y ok f =
    let b = to_bits binary64 y in
    let s = leb sign_one b in
    let x = b / field_one % 2048 in
    let t = b % field_one in
    let e : of_fields binary64 s x t ≡ y = sym (fields_of b) ∙ of_bits-to_bits binary64 y ok in
    subst (λ (z : Float). HasValue z s (cond (eqb x 0) t (t + field_one) * 2 ^ (x - 1)) (2 ^ 1074)) e
    (subst (λ (n : ℕ). HasValue (of_fields binary64 s x t) s n (2 ^ 1074)) (in_units_lem x t)
    (fields_value s x t (below_top s x t (below b) (subst (λ (z : Float). finite z ≡ true) (sym e) f))))
  where
    below : (b : ℕ) → b / field_one % 2048 < 2048
    below b = omega arith

-- a value is one number, with one sign
pub value_unique : (x : Float) (s t : Bool) (a b c : ℕ) → HasValue x s a c → HasValue x t b c → (s ≡ t) × (a ≡ b)
value_unique nan s t a b c h k = absurd h
value_unique (inf u) s t a b c h k = absurd h
value_unique (fin u m e) s t a b c h k = (sym h.0 ∙ k.0, eq_of_mul-eq-mul_right (down e) (down_pos e) a b (sym h.1 ∙ k.1))
