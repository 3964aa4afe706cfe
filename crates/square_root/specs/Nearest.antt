-- What the square root of a finite double above zero is, without its formula: a finite double such that the real root lies nearer to it than to any
-- other, and the only one. That is "proved by comparing squares of whole numbers": the root lies on its side of the middle between the two, so what is
-- rooted is compared with the square of the middle. Doubles are whole numbers of 2 ^ -1074, the least of them, and squares of 2 ^ -2148. Here is what
-- that says (Nearer), and that it holds of what is kept; proofs/Nearest and OnlyRoot prove it of the definition. Assumes nothing.
use Rattle.std.specs.Prelude.{ℕ, suc, ◌+◌, ◌-◌, ◌*◌, ◌^◌, ◌≤◌, ◌<◌, ◌≡◌, refl, Bool, true, false, not, cond, nat_abs, T, ltb, Float}
use Rattle.std.proofs.Common.{le_trans, le_of_eq, le_of_lt, lt_of_lt_of_le, lt_of_le_of_lt, zero-mul, mul_assoc, mul-le-mul, mul-le-mul_right, mul-lt-mul_of_pos_right, lt_of_mul-lt-mul_right, mul-pos, add-mul, arith, sym, ap, ◌∙◌, subst, ltb→lt, nltb→le, pow-add, pow_pos, shl_lt, le-ltb}
use Rattle.std.proofs.Math.Nat.{mul-mul-mul_comm}
use Rattle.std.specs.Float.{nan, inf, fin}
use Rattle.std.specs.Float.Ieee.{up, down, lt, le, of_bits}
use Rattle.std.specs.Float.Ieee.Exact.{HasValue}
use Rattle.laws.specs.Bools.{never}
use Rattle.fp.specs.Num as Num
use Rattle.fp.specs.Num.{finite}
use Rattle.fp.specs.Fields.{field_one}
use Rattle.fp.specs.Nonneg.{nonneg}
use Rattle.rounding.specs.Sticky.{pow_lt_back}
use Rattle.rounding.specs.Signed.{size_signed}
use Rattle.multiply_add.specs.Nearest.{in_least, least_is}
use Rattle.square_root.specs.SquareRoot.{whole_root}
use Rattle.square_root.specs.Steps.{Evened, Rooted}
use Rattle.square_root.specs.Squares.{square_odd, square_even, square_next, square_lt, whole_root_lem, rooted_whole}
use Rattle.square_root.specs.Kept.{square_is, root_least, last_digit}

-- the root of n * 2 ^ 1074 lies nearer to a than to b: twice the root is compared with a + b, twice the middle between the two, by squares
pub record Nearer (n a b : ℕ) : Type 0 where
  pub than_below : b < a → (a + b) * (a + b) < 4 * (n * 2 ^ 1074)
  pub than_above : a < b → 4 * (n * 2 ^ 1074) < (a + b) * (a + b)

-- ---- a number of at most 53 digits that is no less than 2 ^ 52 * 2 ^ k is a multiple of 2 ^ k

multiple : (j i k : ℕ) → j < 2 ^ 53 → 2 ^ 52 * 2 ^ k ≤ j * 2 ^ i → (c : ℕ) × (j * 2 ^ i ≡ c * 2 ^ k)
multiple j i k h l =
    let g : 52 + k < 53 + i =
    pow_lt_back (52 + k) (53 + i) (lt_of_le_of_lt (le_of_eq (pow-add 2 52 k)) (lt_of_le_of_lt l (shl_lt 53 i h))) in
    let e : i ≡ i - k + k = omega arith in
    (j * 2 ^ (i - k), ap (λ (z : ℕ). j * 2 ^ z) e ∙ ap (λ (z : ℕ). j * z) (pow-add 2 (i - k) k) ∙ sym (mul_assoc j (2 ^ (i - k)) (2 ^ k)))

-- ---- q, the whole part of the root of x, or one more, in units of u = 2 ^ k, beside j * 2 ^ i

four_of : (x u : ℕ) → 4 * (x * (u * u)) ≡ 4 * x * (u * u)
four_of x u = sym (mul_assoc 4 x (u * u))

module _ (x q r k : ℕ) (h : Rooted x q r) (lo : field_one ≤ q) (j i : ℕ) (small : j < 2 ^ 53) where
  -- q itself
  stay_below : j * 2 ^ i < q * 2 ^ k → (q * 2 ^ k + j * 2 ^ i) * (q * 2 ^ k + j * 2 ^ i) < 4 * (x * (2 ^ k * 2 ^ k))
  stay_below g =
      let w : q * q ≤ x = (rooted_whole x q r h).0 in
      let s : q * 2 ^ k * (q * 2 ^ k) ≤ x * (2 ^ k * 2 ^ k) =
      le_trans (le_of_eq (mul-mul-mul_comm q (2 ^ k) q (2 ^ k))) (mul-le-mul_right (2 ^ k * 2 ^ k) w) in
      let t = twice_lt (q * 2 ^ k) (j * 2 ^ i) g in
      omega arith
    where
      twice_lt : (a b : ℕ) → b < a → (a + b) * (a + b) < 4 * (a * a)
      twice_lt a b h = lt_of_lt_of_le (square_lt (a + b) (2 * a) (omega arith)) (le_of_eq (square_even a))

  -- p * 2 ^ k, with 2 * p + 1 past twice the root
  next : (p : ℕ) → q ≤ p → p * 2 ^ k < j * 2 ^ i → 4 * x < (2 * p + 1) * (2 * p + 1)
      → 4 * (x * (2 ^ k * 2 ^ k)) < (p * 2 ^ k + j * 2 ^ i) * (p * 2 ^ k + j * 2 ^ i)
  next p o g m =
      let u = 2 ^ k in
      let c = multiple j i k small (le_trans (mul-le-mul_right u (le_trans lo o)) (le_of_lt g)) in
      let a : p < c.0 = lt_of_mul-lt-mul_right u (lt_of_lt_of_le g (le_of_eq c.1)) in
      let b : (p + 1) * u ≤ c.0 * u = mul-le-mul_right u (omega arith) in
      let s : (2 * p + 1) * u ≡ p * u + (p + 1) * u = ap (λ (z : ℕ). z * u) (split p) ∙ add-mul p (p + 1) u in
      let t : (2 * p + 1) * u ≤ p * u + j * 2 ^ i =
      le_trans (le_of_eq s) (le_trans (add-le (p * u) b) (le_of_eq (ap (λ (z : ℕ). p * u + z) (sym c.1)))) in
      lt_of_le_of_lt (le_of_eq (four_of x u))
      (lt_of_lt_of_le (mul-lt-mul_of_pos_right m (mul-pos (pow_pos k) (pow_pos k)))
      (le_trans (le_of_eq (sym (mul-mul-mul_comm (2 * p + 1) u (2 * p + 1) u))) (mul-le-mul t t)))
    where
      split : (p : ℕ) → 2 * p + 1 ≡ p + (p + 1)
      split p = omega arith

      add-le : (a : ℕ) {b c : ℕ} → b ≤ c → a + b ≤ a + c
      add-le a h = omega arith

  stay_above : r ≤ q → q * 2 ^ k < j * 2 ^ i → 4 * (x * (2 ^ k * 2 ^ k)) < (q * 2 ^ k + j * 2 ^ i) * (q * 2 ^ k + j * 2 ^ i)
  stay_above f g = let s = h.sum in next q (le_of_eq refl) g (omega (arith, square_odd q))

  -- one more
  move_above : (q + 1) * 2 ^ k < j * 2 ^ i → 4 * (x * (2 ^ k * 2 ^ k)) < ((q + 1) * 2 ^ k + j * 2 ^ i) * ((q + 1) * 2 ^ k + j * 2 ^ i)
  move_above g =
      let s = h.sum in
      let f = h.few in
      next (q + 1) (omega arith) g (omega (arith, square_odd (q + 1), square_next q))

  move_below : q < r → j * 2 ^ i < (q + 1) * 2 ^ k → ((q + 1) * 2 ^ k + j * 2 ^ i) * ((q + 1) * 2 ^ k + j * 2 ^ i) < 4 * (x * (2 ^ k * 2 ^ k))
  move_below f g =
      let u = 2 ^ k in
      let s = h.sum in
      let m : (2 * q + 1) * (2 * q + 1) < 4 * x = omega (arith, square_odd q) in
      let b : j * 2 ^ i ≤ q * u = lt-or (j * 2 ^ i) (q * u) (λ (d : q * u < j * 2 ^ i).
      let c = multiple j i k small (le_trans (mul-le-mul_right u lo) (le_of_lt d)) in
      let p : q < c.0 = lt_of_mul-lt-mul_right u (lt_of_lt_of_le d (le_of_eq c.1)) in
      let n : c.0 < q + 1 = lt_of_mul-lt-mul_right u (lt_of_le_of_lt (le_of_eq (sym c.1)) g) in
      omega arith) in
      let e : (2 * q + 1) * u ≡ (q + 1) * u + q * u = ap (λ (z : ℕ). z * u) (split q) ∙ add-mul (q + 1) q u in
      let t : (q + 1) * u + j * 2 ^ i ≤ (2 * q + 1) * u = omega arith in
      lt_of_le_of_lt (mul-le-mul t t)
      (lt_of_le_of_lt (le_of_eq (mul-mul-mul_comm (2 * q + 1) u (2 * q + 1) u))
      (lt_of_lt_of_le (mul-lt-mul_of_pos_right m (mul-pos (pow_pos k) (pow_pos k))) (le_of_eq (sym (four_of x u)))))
    where
      split : (q : ℕ) → 2 * q + 1 ≡ q + 1 + q
      split q = omega arith

      lt-or : (a b : ℕ) → (b < a → ⊥) → a ≤ b
      lt-or a b n = omega arith

-- ---- in least doubles

pub nearer_at : (n e h q r : ℕ) → Evened n 52 e h → Rooted (e * field_one) q r → (j i : ℕ) → j < 2 ^ 53
    → Nearer n (last_digit q r * 2 ^ (h + 485)) (j * 2 ^ i)
nearer_at n e h q r s k j i small = go (ltb q r) (ltb→lt q r) (nltb→le q r)
  where
    x : ℕ
    x = e * field_one

    K : ℕ
    K = h + 485

    lo : field_one ≤ q
    lo = root_least e q r k s.least

    square : n * 2 ^ 1074 ≡ x * (2 ^ K * 2 ^ K)
    square = square_is n e h s.value

    one_more : q + 1 ≡ suc q
    one_more = omega arith

    below : {z : ℕ} → z < 4 * (x * (2 ^ K * 2 ^ K)) → z < 4 * (n * 2 ^ 1074)
    below l = lt_of_lt_of_le l (le_of_eq (ap (λ (z : ℕ). 4 * z) (sym square)))

    above : {z : ℕ} → 4 * (x * (2 ^ K * 2 ^ K)) < z → 4 * (n * 2 ^ 1074) < z
    above l = lt_of_le_of_lt (le_of_eq (ap (λ (z : ℕ). 4 * z) square)) l

    go : (b : Bool) → (T b → q < r) → (T (not b) → r ≤ q) → Nearer n (cond b (suc q) q * 2 ^ K) (j * 2 ^ i)
    go true f g =
        subst (λ (z : ℕ). Nearer n (z * 2 ^ K) (j * 2 ^ i)) one_more
        (record {
          than_below = λ m. below (move_below x q r K k lo j i small (f tt) m);
          than_above = λ m. above (move_above x q r K k lo j i small m);
        })
    go false f g = record {
      than_below = λ m. below (stay_below x q r K k lo j i small m);
      than_above = λ m. above (stay_above x q r K k lo j i small (g tt) m);
    }

pub rooted : (x : ℕ) → Rooted x (whole_root x) (x - whole_root x * whole_root x)
rooted x = let w = whole_root_lem x in record { sum = omega arith; few = omega (arith, square_next (whole_root x)) }

-- ---- of doubles

-- the size of a finite double, as a whole number of least doubles
abbrev pub leasts : Float → ℕ
leasts x = nat_abs (in_least x)

pub leasts_is : (x : Float) (s : Bool) (n : ℕ) → HasValue x s n (2 ^ 1074) → leasts x ≡ n
leasts_is x s n v = ap nat_abs (least_is x s n v) ∙ size_signed s n

pub signless : (x : Float) (n : ℕ) → HasValue x false n (2 ^ 1074) → (finite x ≡ true) × (le Num.zero x ≡ true)
unfolding lt of_bits
signless nan n v = absurd v
signless (inf s) n v = absurd v
signless (fin true m e) n v = never (sym v.0)
signless (fin false m e) n v =
    (refl, nonneg (fin false m e) refl (le-ltb (m * up e * 1) (0 * down e) (omega (arith, zero-mul (down e)))))
