-- From the whole root of a double's digits to the double, its last digit: what rests on the definition of the middle. Assumes nothing.
use Rattle.std.specs.Prelude.{ℕ, suc, ◌+◌, ◌-◌, ◌*◌, ◌/◌, ◌^◌, ◌≤◌, ◌<◌, ◌≡◌, refl, Bool, true, false, cond, T, ltb, Float}
use Rattle.std.proofs.Common.{le_trans, le_of_eq, lt_of_lt_of_le, lt_of_le_of_lt, mul_assoc, mul-le-mul_right, mul-lt-mul_of_pos_right, lt_of_mul-lt-mul_right, mul-pos, div-lt_iff_lt-mul, div-mul-le_self, arith, sym, ap, ◌∙◌, subst, pow-add, pow_pos, pow_mono, shl_lt}
use Rattle.std.proofs.Math.Nat.{mul-mul-mul_comm}
use Rattle.std.specs.Float.{binary64}
use Rattle.std.specs.Float.Ieee.{size, units, fits}
use Rattle.std.specs.Float.Ieee.Bits.{of_bits-fits}
use Rattle.std.specs.Float.Ieee.Exact.{HasValue, units_val}
use Rattle.fp.specs.Fields.{field_one}
use Rattle.rounding.specs.Sums.{less_iff}
use Rattle.rounding.specs.Pack.{size_exact}
use Rattle.square_root.specs.SquareRoot.{middle, whole_root, nearest_root}
use Rattle.square_root.specs.Steps.{Evened, Rooted}
use Rattle.square_root.specs.Squares.{Whole, square_odd, whole_root_lem, rooted_whole, whole_scaled}
use Rattle.square_root.specs.Kept.{square_is, root_least, root_most, packed, last_digit}

-- ---- the last digit

-- the root of `square`, of which q is kept and k digits are dropped
abbrev kept_root : ℕ → ℕ → ℕ → Float
kept_root square k q = units binary64 false (cond (ltb (middle q k * middle q k) (4 * square)) (suc q) q) k

nearest_root_is : (n : ℕ) → nearest_root n
    ≡ kept_root (n * 2 ^ 1074) (size (whole_root (n * 2 ^ 1074)) - 53)
    (whole_root (n * 2 ^ 1074) / 2 ^ (size (whole_root (n * 2 ^ 1074)) - 53))
unfolding nearest_root
nearest_root_is n = refl

-- the root of x lies above q + 1/2 where more than q is left: 4 * x is even, and the square of 2 * q + 1 is odd
middle_test : (x q rest u : ℕ) → 0 < u → Rooted x q rest → ltb ((2 * q + 1) * u * ((2 * q + 1) * u)) (4 * (x * (u * u))) ≡ ltb q rest
middle_test x q rest u U h =
    let s = square_odd q in
    let m = h.sum in
    let a : (2 * q + 1) * u * ((2 * q + 1) * u) ≡ (2 * q + 1) * (2 * q + 1) * (u * u) = mul-mul-mul_comm (2 * q + 1) u (2 * q + 1) u in
    let b : 4 * (x * (u * u)) ≡ 4 * x * (u * u) = sym (mul_assoc 4 x (u * u)) in
    less_iff ((2 * q + 1) * u * ((2 * q + 1) * u)) (4 * (x * (u * u))) q rest
    (λ l. let c : (2 * q + 1) * (2 * q + 1) < 4 * x =
    lt_of_mul-lt-mul_right (u * u) (lt_of_le_of_lt (le_of_eq (sym a)) (lt_of_lt_of_le l (le_of_eq b))) in omega arith)
    (λ l. from (λ (g : q < rest). let c : (2 * q + 1) * (2 * q + 1) < 4 * x = omega arith in
    not_both l (lt_of_le_of_lt (le_of_eq a) (lt_of_lt_of_le (mul-lt-mul_of_pos_right c (mul-pos U U)) (le_of_eq (sym b))))))
  where
    from : (q < rest → ⊥) → rest ≤ q
    from n = omega arith

    not_both : {a b : ℕ} → b ≤ a → a < b → ⊥
    not_both h k = omega arith

at_scaled : (n x q rest k : ℕ) → n ≡ x * (2 ^ k * 2 ^ k) → Rooted x q rest → field_one ≤ q → q < 2 * field_one
    → kept_root n (size (whole_root n) - 53) (whole_root n / 2 ^ (size (whole_root n) - 53)) ≡ units binary64 false (cond (ltb q rest) (suc q) q) k
at_scaled n x q rest k e h lo hi =
    let u = 2 ^ k in
    let r = whole_root n in
    let w : Whole (x * (u * u)) r = subst (λ (z : ℕ). Whole z r) e (whole_root_lem n) in
    let d : r / u ≡ q = whole_scaled x u q r (pow_pos k) (rooted_whole x q rest h) w in
    let low : 2 ^ (52 + k) ≤ r =
    le_trans (le_of_eq (pow-add 2 52 k))
    (le_trans (mul-le-mul_right u lo) (le_trans (le_of_eq (ap (λ (z : ℕ). z * u) (sym d))) (div-mul-le_self r u))) in
    let high : r < 2 ^ suc (52 + k) =
    lt_of_lt_of_le ((div-lt_iff_lt-mul (pow_pos k)).0 (subst (λ (z : ℕ). z < 0x20_0000_0000_0000) (sym d) hi))
    (le_of_eq (sym (ap (λ (z : ℕ). 2 ^ z) (more k) ∙ pow-add 2 53 k))) in
    let z : size r - 53 ≡ k = ap (λ (y : ℕ). y - 53) (size_exact (52 + k) r low high) ∙ kept k in
    ap (λ (y : ℕ). kept_root n y (r / 2 ^ y)) z
    ∙ ap (λ (y : ℕ). kept_root n k y) d
    ∙ ap (λ (y : ℕ). kept_root y k q) e
    ∙ ap (λ (b : Bool). units binary64 false (cond b (suc q) q) k) (middle_test x q rest u (pow_pos k) h)
  where
    kept : (k : ℕ) → suc (52 + k) - 53 ≡ k
    kept k = omega arith

    more : (k : ℕ) → suc (52 + k) ≡ 53 + k
    more k = omega arith

-- ---- in least doubles

module _ (n e h q r : ℕ) (s : Evened n 52 e h) (k : Rooted (e * field_one) q r) where
  pub root_units : nearest_root n ≡ units binary64 false (last_digit q r) (h + 485)
  root_units =
      nearest_root_is n
      ∙ at_scaled (n * 2 ^ 1074) (e * 2 ^ 52) q r (h + 485) (square_is n e h s.value) k (root_least e q r k s.least)
      (root_most e q r k s.most)

  pub root_value : HasValue (nearest_root n) false (last_digit q r * 2 ^ (h + 485)) (2 ^ 1074)
  root_value =
      subst (λ (y : Float). HasValue y false (last_digit q r * 2 ^ (h + 485)) (2 ^ 1074)) (sym root_units)
      (units_val binary64 false (last_digit q r) (h + 485) (lt_of_lt_of_le (shl_lt 54 (h + 485) small) (pow_mono {j = 2098} (fit s.half))))
    where
      small : last_digit q r < 2 ^ 54
      small = go (ltb q r) (root_most e q r k s.most)
        where
          go : (b : Bool) → q < 2 * field_one → cond b (suc q) q < 2 ^ 54
          go true l = omega arith
          go false l = omega arith

      fit : h < 1050 → 54 + (h + 485) ≤ 2098
      fit l = omega arith

  pub root_fits : T (fits binary64 (nearest_root n))
  root_fits =
      let (lo, hi) = digits (ltb q r) (root_least e q r k s.least) (root_most e q r k s.most) in
      subst (λ (y : Float). T (fits binary64 y)) (packed (h + 485) (last_digit q r) (fit s.half) lo hi ∙ sym root_units)
      (of_bits-fits binary64 ((h + 485) * field_one + last_digit q r))
    where
      digits : (b : Bool) → field_one ≤ q → q < 2 * field_one → (field_one ≤ cond b (suc q) q) × (cond b (suc q) q ≤ 2 * field_one)
      digits true lo hi = (omega arith, omega arith)
      digits false lo hi = (lo, omega arith)

      fit : h < 1050 → h + 485 < 1536
      fit l = omega arith
