-- A turn of the loop of `whole_root`: the digits passed are p * p + r, and those to come are w. Assumes nothing.
use Prim.Native.Nat.{ℕ, ◌+◌, ◌-◌, ◌*◌, ◌/◌, ◌%◌, ◌^◌, ◌≤◌, ◌<◌}
use native.Mathlib.Nat.{lt_of_lt_of_le, le_of_suc-le-suc, mul_comm, mul_left_comm, mul-mul-mul_comm, pow-succ'}
use native.Mathlib.Numerals.{add-one}
use native.Mathlib.Omega.{arith}
use mathlib.Core.Path.{◌≡◌, sym, ap, ◌∙◌, subst}
use lib.Pow.{pow_mono}
use Rattle.fp.specs.Fields.{field_one}
use Rattle.square_root.specs.Squares.{square_odd, square_even}

abbrev pub Turn : ℕ → ℕ → ℕ → ℕ → ℕ → Type 0
Turn d p r w i =
    (i ≤ 53) × (r ≤ 2 * p) × (w < 4 * field_one) × (p < 2 * field_one) × (p < 2 ^ i) × ((p * p + r) * 0x40_0000_0000_0000 + w ≡ d * (2 ^ i * 2 ^ i))

twice : (i : ℕ) → 2 ^ (i + 1) ≡ 2 * 2 ^ i
twice i = ap (λ (k : ℕ). 2 ^ k) (add-one i) ∙ pow-succ' 2 i

four : (d i : ℕ) → d * (2 ^ (i + 1) * 2 ^ (i + 1)) ≡ 4 * (d * (2 ^ i * 2 ^ i))
four d i =
    ap (λ (x : ℕ). d * (x * x)) (twice i) ∙ ap (λ (x : ℕ). d * x) (mul-mul-mul_comm 2 (2 ^ i) 2 (2 ^ i)) ∙ mul_left_comm d 4 (2 ^ i * 2 ^ i)

below : (p i : ℕ) → i < 53 → p < 2 ^ i → p < field_one
below p i h l = lt_of_lt_of_le l (pow_mono {j = 52} (le_of_suc-le-suc h))

module _ (d p r w i : ℕ) (h : i < 53) (v : Turn d p r w i) where
  -- the next digit is 1
  pub turn_one : 4 * p < 4 * r + w / field_one → Turn d (2 * p + 1) (4 * r + w / field_one - (4 * p + 1)) (w % field_one * 4) (i + 1)
  turn_one g =
      let b = below p i h v.4 in
      let e = v.5 in
      (omega arith, omega arith, omega arith, omega arith, omega (arith, twice i), omega (arith, four d i, square_odd p))

  -- it is 0
  pub turn_none : 4 * r + w / field_one ≤ 4 * p → Turn d (p * 2) (4 * r + w / field_one) (w % field_one * 4) (i + 1)
  turn_none g =
      let b = below p i h v.4 in
      let e = v.5 in
      rw (mul_comm p 2) (omega arith, omega arith, omega arith, omega arith, omega (arith, twice i), omega (arith, four d i, square_even p))

pub turn_same : (d p r w i p' r' : ℕ) → p' ≡ p → r' ≡ r → Turn d p r w i → Turn d p' r' w i
turn_same d p r w i p' r' e f v = subst (λ (x : ℕ). Turn d x r' w i) (sym e) (subst (λ (y : ℕ). Turn d p y w i) (sym f) v)
