-- The whole number nearest to a double, from its bits: one law for each way through the code. Assumes nothing.
use Prim.Native.Nat.{ℕ, zero, suc, ◌+◌, ◌-◌, ◌*◌, ◌/◌, ◌%◌, ◌^◌, ◌≤◌, ◌<◌, min}
use native.Mathlib.Nat.{one-mul, add_comm, eq-or-lt_of_le, mul-pos, mul_assoc, mul_comm, mul_left_comm, mul_right_comm, add-mul, mul-le-mul_left}
use native.Mathlib.Nat.{mul-le-mul_right, mul-le-mul, le_trans, le_of_eq, lt_of_lt_of_le, lt_of_le_of_lt, mod-eq_of_lt, min-eq_right, div-eq_of_lt}
use native.Mathlib.Nat.{le-div_iff_mul-le, lt_of_mul-lt-mul_right, le_of_mul-le-mul_right, mul-lt-mul_of_pos_right, eq_of_mul-eq-mul_left, mod-le}
use native.Mathlib.Nat.{pow-succ'}
use native.Mathlib.Omega.{arith}
use mathlib.Core.Path.{◌≡◌, refl, sym, ap, ◌∙◌, subst}
use mathlib.Core.Logic.{inl, inr}
use mathlib.Core.Bool.{Bool, true, false, not, cond, true≢false}
use lib.Dec.{T, eqb, ltb, lit<, lit≤}
use borrow.Author.Tests.{lt-ltb}
use lib.Pow.{pow-add, pow_pos, pow_mono, pow-lt}
use lib.Ieee.{Float, nan, inf, fin, binary64, up, down, odd, fits, is_nan, of_fields, to_bits}
use lib.Ieee.Fits.{down_pos}
use lib.Ieee.Bits.{of_bits-to_bits}
use lib.Ieee.Exact.{HasValue}
use lib.Ieee.Nearest.{div_same}
use Rattle.fp.specs.Fields.{field_one, sign_one, in_units, of_bits_clear, of_bits_set, bits_value}
use Rattle.scale.specs.Scale.{whole, above_ceiling, ceiling, sentinel}

-- a whole number that is the value of y, held to the ceiling
abbrev pub Rounds : Float → ℕ → Type 0
Rounds y n = (min n ceiling ≡ whole y) × (ltb ceiling n ≡ above_ceiling y)

-- ---- a sign that is set

set_odd : (d q k l : ℕ) → Rounds (odd d true q k l) 0
unfolding odd whole above_ceiling
set_odd d zero k l = (refl, refl)
set_odd d (suc q) k l = (refl, refl)

set_fields : (x t : ℕ) → Rounds (of_fields binary64 true x t) 0
unfolding of_fields whole above_ceiling
set_fields zero t = set_odd 53 t 0 1074
set_fields (suc x) t = go (eqb (suc x) 2047) (eqb t 0)
  where
    go : (a b : Bool) → Rounds (cond a (cond b (inf true) nan) (odd 53 true (field_one + t) x 1074)) 0
    go true true = (refl, refl)
    go true false = (refl, refl)
    go false b = set_odd 53 (field_one + t) x 1074

-- ---- a value A / C: below a half, from the ceiling on, and between

small : (y : Float) (A C : ℕ) → HasValue y false A C → 2 * A < C → Rounds y 0
unfolding whole above_ceiling
small nan A C v h = (refl, refl)
small (inf true) A C v h = (refl, refl)
small (inf false) A C v h = absurd v
small (fin true m e) A C v h = (refl, refl)
small (fin false m e) A C v h =
    let d = down_pos e in
    let p : 2 * (m * up e) * C < down e * C =
    lt_of_le_of_lt (le_of_eq (mul_assoc 2 (m * up e) C ∙ ap (λ (z : ℕ). 2 * z) v.1 ∙ sym (mul_assoc 2 A (down e))))
    (lt_of_lt_of_le (mul-lt-mul_of_pos_right h d) (le_of_eq (mul_comm C (down e)))) in
    let q : 2 * (m * up e) < down e = lt_of_mul-lt-mul_right C p in
    let r : 2 * (m * up e) + down e < 2 * down e = omega arith in
    (rw (div-eq_of_lt r), rw (div-eq_of_lt r))

big : (y : Float) (A C : ℕ) → 0 < C → HasValue y false A C → sentinel * C ≤ A → Rounds y sentinel
unfolding whole above_ceiling
big nan A C c v h = absurd v
big (inf true) A C c v h = absurd v
big (inf false) A C c v h = (refl, refl)
big (fin true m e) A C c v h = absurd (true≢false v.0)
big (fin false m e) A C c v h =
    let p : sentinel * down e * C ≤ m * up e * C =
    le_trans (le_of_eq (mul_right_comm sentinel (down e) C)) (le_trans (mul-le-mul_right (down e) h) (le_of_eq (sym v.1))) in
    let q : sentinel * down e ≤ m * up e = le_of_mul-le-mul_right p c in
    let r : sentinel * (2 * down e) ≤ 2 * (m * up e) + down e = omega arith in
    let l : sentinel ≤ (2 * (m * up e) + down e) / (2 * down e) = (le-div_iff_mul-le (mul-pos (lit< tt) (down_pos e))).1 r in
    (sym (min-eq_right (omega arith)), sym (lt-ltb ceiling ((2 * (m * up e) + down e) / (2 * down e)) (omega arith)))

-- q * 2 ^ x units, where k + 1 of the digits of q lie below the point
middle : (y : Float) (q x k : ℕ) → x + suc k ≡ 1074 → HasValue y false (q * 2 ^ x) (2 ^ 1074)
    → Rounds y ((q + 2 ^ k) / 2 ^ suc k)
unfolding whole above_ceiling
middle nan q x k e v = absurd v
middle (inf true) q x k e v = absurd v
middle (inf false) q x k e v = absurd v
middle (fin true m c) q x k e v = absurd (true≢false v.0)
middle (fin false m c) q x k e v =
    let X = 2 ^ x in
    let H = 2 ^ k in
    let S : 2 ^ suc k ≡ 2 * H = pow-succ' 2 k in
    let P : 2 ^ 1074 ≡ X * (2 * H) = ap (λ (n : ℕ). 2 ^ n) (sym e) ∙ pow-add 2 x (suc k) ∙ ap (λ (n : ℕ). X * n) S in
    let E : m * up c * (X * (2 * H)) ≡ q * X * down c = ap (λ (n : ℕ). m * up c * n) (sym P) ∙ v.1 in
    let W : m * up c * (2 * H) ≡ q * down c =
    eq_of_mul-eq-mul_left X (pow_pos x) (m * up c * (2 * H)) (q * down c)
    (mul_left_comm X (m * up c) (2 * H) ∙ E ∙ mul_right_comm q X (down c) ∙ mul_comm (q * down c) X) in
    let L : (2 * (m * up c) + down c) * (2 * H) ≡ 2 * (m * up c * (2 * H)) + down c * (2 * H) =
    add-mul (2 * (m * up c)) (down c) (2 * H) ∙ ap (λ (n : ℕ). n + down c * (2 * H)) (mul_assoc 2 (m * up c) (2 * H)) in
    let R : (q + H) * (2 * down c) ≡ 2 * (q * down c) + down c * (2 * H) = add-mul q H (2 * down c) ∙ simp (mul_comm, mul_left_comm) in
    let Z : (2 * (m * up c) + down c) * (2 * H) ≡ (q + H) * (2 * down c) = L ∙ ap (λ (n : ℕ). 2 * n + down c * (2 * H)) W ∙ sym R in
    let D : (2 * (m * up c) + down c) / (2 * down c) ≡ (q + H) / 2 ^ suc k =
    div_same (2 * (m * up c) + down c) (2 * down c) (q + H) (2 * H) (mul-pos (lit< tt) (down_pos c)) (mul-pos (lit< tt) (pow_pos k)) Z
    ∙ ap (λ (n : ℕ). (q + H) / n) (sym S) in
    (ap (λ (n : ℕ). min n ceiling) (sym D), ap (λ (n : ℕ). ltb ceiling n) (sym D))

-- ---- the fields against a half and the ceiling

-- omega reads no number of more than 38 digits
twice : {a b : ℕ} → a < b → 2 * a < 2 * b
twice h = omega arith

small_units : (x t : ℕ) → t < field_one → x < 1022 → 2 * in_units x t < 2 ^ 1074
small_units zero t h k = lt_of_lt_of_le (twice h) (lit≤ tt)
small_units (suc x) t h k =
    let q : field_one + t < 2 ^ 53 = omega arith in
    let l : x ≤ 1020 = omega arith in
    let p : (field_one + t) * 2 ^ x < 2 ^ 53 * 2 ^ 1020 =
    lt_of_lt_of_le (mul-lt-mul_of_pos_right q (pow_pos x)) (mul-le-mul_left (2 ^ 53) (pow_mono l)) in
    lt_of_lt_of_le (twice p) (lit≤ tt)

big_units : (x t : ℕ) → 1071 ≤ x → sentinel * 2 ^ 1074 ≤ in_units x t
big_units zero t h = absurd (omega arith)
big_units (suc x) t h =
    let q : field_one ≤ field_one + t = omega arith in
    let l : 1070 ≤ x = omega arith in
    le_trans (lit≤ tt) (mul-le-mul q (pow_mono l))

shifted : (y : Float) (x t k a b : ℕ) → a ≡ k → b ≡ suc k → k < 64 → x + suc k ≡ 1074
    → HasValue y false ((field_one + t) * 2 ^ x) (2 ^ 1074)
    → Rounds y ((t + field_one + (1 * 2 ^ a) % 18446744073709551616) / 2 ^ b)
shifted y x t k a b p q r e v =
    rw (p, q, one-mul (2 ^ k), mod-eq_of_lt (pow-lt r), add_comm t field_one) (middle y (field_one + t) x k e v)

middle_units : (y : Float) (x t : ℕ) → 1022 ≤ x → x < 1071 → HasValue y false (in_units x t) (2 ^ 1074)
    → Rounds y ((t + field_one + (1 * 2 ^ (1075 - x - 1)) % 18446744073709551616) / 2 ^ (1075 - x))
middle_units y zero t h k v = absurd (omega arith)
middle_units y (suc x) t h k v =
    shifted y x t (1073 - x) (1075 - suc x - 1) (1075 - suc x) (omega arith) (omega arith) (omega arith) (omega arith) v

-- a field of all ones is an infinity's
endless : (t : ℕ) → T (not (is_nan (of_fields binary64 false 2047 t))) → Rounds (of_fields binary64 false 2047 t) sentinel
unfolding of_fields whole above_ceiling is_nan
endless t = go (eqb t 0)
  where
    go : (b : Bool) → T (not (is_nan (cond b (inf false) nan))) → Rounds (cond b (inf false) nan) sentinel
    go true n = (refl, refl)
    go false n = absurd n

field_le : (b : ℕ) → b < sign_one → b / field_one ≤ 2047
field_le b p = omega arith

-- ---- the ways of the code

module _ (y : Float) (ok : T (fits binary64 y)) where
  pub way_set : sign_one ≤ to_bits binary64 y → Rounds y 0
  way_set h =
      subst (λ (z : Float). Rounds z 0) (sym (sym (of_bits-to_bits binary64 y ok) ∙ of_bits_set (to_bits binary64 y) h)) (set_fields _ _)

  pub way_small : to_bits binary64 y < sign_one → to_bits binary64 y / field_one < 1022 → Rounds y 0
  way_small h k = small y _ _ (bits_value y ok h (omega arith)) (small_units _ _ (omega arith) k)

  pub way_middle : to_bits binary64 y < sign_one → 1022 ≤ to_bits binary64 y / field_one → to_bits binary64 y / field_one < 1071
      → Rounds y
      ((to_bits binary64 y % field_one + field_one + (1 * 2 ^ (1075 - to_bits binary64 y / field_one - 1)) % 18446744073709551616)
      / 2 ^ (1075 - to_bits binary64 y / field_one))
  way_middle h k l = middle_units y _ _ k l (bits_value y ok h (omega arith))

  pub way_big : T (not (is_nan y)) → to_bits binary64 y < sign_one → 1071 ≤ to_bits binary64 y / field_one → Rounds y sentinel
  way_big n h k = elim (eq-or-lt_of_le (field_le (to_bits binary64 y) h)) [
    | inl e ↦
        let z : y ≡ of_fields binary64 false 2047 (to_bits binary64 y % field_one) =
        sym (of_bits-to_bits binary64 y ok) ∙ of_bits_clear (to_bits binary64 y) h
        ∙ ap (λ (x : ℕ). of_fields binary64 false x (to_bits binary64 y % field_one)) e in
        subst (λ (v : Float). Rounds v sentinel) (sym z) (endless _ (subst (λ (v : Float). T (not (is_nan v))) z n))
    | inr l ↦ big y _ _ (pow_pos 1074) (bits_value y ok h l) (big_units _ _ k)
  ]

pub half_small : (x : ℕ) → 1022 ≤ x → (1 * 2 ^ (1075 - x - 1)) % 18446744073709551616 < 2 ^ 53
half_small x h = lt_of_le_of_lt (mod-le _ _) (subst (λ (n : ℕ). n < 2 ^ 53) (sym (one-mul _)) (pow-lt {j = 53} (omega arith)))
