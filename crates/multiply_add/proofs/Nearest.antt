-- What `mul_add` of finite doubles is, without its formula: where the result is finite, no double is nearer to the exact x × y + z, and where two are
-- equally near, it is the one whose significand is even; and where the result is finite. In the words of specs/Nearest. Assumes nothing.
use Rattle.std.specs.Prelude.{◌≡◌, ℕ, zero, suc, ◌+◌, ◌-◌, ◌*◌, ◌%◌, ◌^◌, ◌<◌, ◌≤◌, Bool, true, false, not, ◌&&◌, T, ◌⊎◌, ℤ, pos, ◌+ℤ◌, ◌-ℤ◌, ◌*ℤ◌, ◌≢◌, to_bits, unsigned_abs, refl, Float}
use Rattle.std.proofs.Common.{sym, ap, ◌∙◌, subst, inl, inr, le_trans, le_of_eq, lt_of_lt_of_le, lt_of_le_of_lt, arith, lit<, lt-ltb, le-ltb}
use Rattle.std.proofs.Math.Bool.{and-true, and-false}
use Rattle.std.specs.Float.{inf, binary64}
use Rattle.std.specs.Float.Ieee.{unlike, round, fits}
use Rattle.std.specs.Float.Ieee.Fits.{round-fits}
use Rattle.std.specs.Float.Ieee.Exact.{HasValue}
use Rattle.laws.specs.Bools.{less?}
use Rattle.fp.specs.Num.{finite}
use Rattle.rounding.specs.Sums.{sum_plus, sum_less, sum_more, signs}
use Rattle.rounding.specs.Unpack.{significand_of, exponent_of, significand_lt}
use Rattle.rounding.specs.Signed.{signed, sum_signed, product_signed, scaled_signed, size_signed}
use Rattle.rounding.specs.Nearest.{limit, round_nearest, round_even, round_finite, round_infinite}
use Rattle.multiply_add.specs.MulAdd.{mul_add}
use Rattle.multiply_add.specs.Steps.{both}
use Rattle.multiply_add.proofs.Units.{mul_add_is}
use Rattle.multiply_add.specs.Nearest.{in_least, exact, off, negative, Double, least_is, sign_of, size_of, value}

scaled : (y : Float) (s : Bool) (n : ℕ) → HasValue y s n (2 ^ 1074) → in_least y *ℤ pos (2 ^ 1074) ≡ signed s (n * 2 ^ 1074)
scaled y s n h = ap (λ (k : ℤ). k *ℤ pos (2 ^ 1074)) (least_is y s n h) ∙ scaled_signed s n (2 ^ 1074)

-- a sum is one number, with a sign, rounded
record Rounded (s : Bool) (a : ℕ) (t : Bool) (b : ℕ) : Type 0 where
  sign : Bool
  size : ℕ
  is : both s a t b ≡ round binary64 sign size (2 ^ 2148)
  equals : signed s a +ℤ signed t b ≡ signed sign size

rounded : (s : Bool) (a : ℕ) (t : Bool) (b : ℕ) → Rounded s a t b
unfolding both
rounded s a t b = go (signs s t)
  where
    like : (s : Bool) → signed s a +ℤ signed s b ≡ signed s (a + b)
    like false = sum_signed false a false b false (a + b) (omega arith)
    like true = sum_signed true a true b true (a + b) (omega arith)

    less : (s : Bool) → a < b → signed s a +ℤ signed (not s) b ≡ signed (not s) (b - a)
    less false h = sum_signed false a true b true (b - a) (omega arith)
    less true h = sum_signed true a false b false (b - a) (omega arith)

    more : (s : Bool) → b < a → signed s a +ℤ signed (not s) b ≡ signed s (a - b)
    more false h = sum_signed false a true b false (a - b) (omega arith)
    more true h = sum_signed true a false b true (a - b) (omega arith)

    none : (s : Bool) → b ≤ a → a ≤ b → signed s a +ℤ signed (not s) b ≡ signed false (a - b)
    none false h k = sum_signed false a true b false (a - b) (omega arith)
    none true h k = sum_signed true a false b false (a - b) (omega arith)

    apart : (a < b) ⊎ (b ≤ a) → (b < a) ⊎ (a ≤ b) → Rounded s a (not s) b
    apart (inl h) k = record { sign = not s; size = b - a; is = sum_less binary64 s a b (2 ^ 2148) h; equals = less s h }
    apart (inr h) (inl k) = record {
      sign = s;
      size = a - b;
      is =
          sum_more binary64 s a b (2 ^ 2148) h ∙ ap (λ (w : Bool). round binary64 w (a - b) (2 ^ 2148))
          (ap (λ (w : Bool). s && w) (lt-ltb b a k) ∙ and-true s);
      equals = more s k;
    }
    apart (inr h) (inr k) = record {
      sign = false;
      size = a - b;
      is =
          sum_more binary64 s a b (2 ^ 2148) h ∙ ap (λ (w : Bool). round binary64 w (a - b) (2 ^ 2148))
          (ap (λ (w : Bool). s && w) (le-ltb b a k) ∙ and-false s);
      equals = none s h k;
    }

    go : (t ≡ s) ⊎ (t ≡ not s) → Rounded s a t b
    go (inl e) =
        subst (λ (w : Bool). Rounded s a w b) (sym e) (record { sign = s; size = a + b; is = sum_plus binary64 s a b (2 ^ 2148); equals = like s })
    go (inr e) = subst (λ (w : Bool). Rounded s a w b) (sym e) (apart (less? a b) (less? b a))

-- ---- the theorems

module _ (x y z : Float) (X : Double x) (Y : Double y) (Z : Double z) where
  total : Rounded (unlike (sign_of x) (sign_of y)) (size_of x * size_of y) (sign_of z) (size_of z * 2 ^ 1074)
  total = rounded (unlike (sign_of x) (sign_of y)) (size_of x * size_of y) (sign_of z) (size_of z * 2 ^ 1074)

  result : mul_add x y z ≡ round binary64 total.sign total.size (2 ^ 2148)
  result =
      mul_add_is x y z (sign_of x) (sign_of y) (sign_of z) (size_of x) (size_of y) (size_of z) (value x X) (value y Y) (value z Z) ∙ total.is

  exactly : exact x y z ≡ signed total.sign total.size
  exactly =
      ap (λ (k : ℤ). k *ℤ in_least y +ℤ in_least z *ℤ pos (2 ^ 1074)) (least_is x (sign_of x) (size_of x) (value x X))
      ∙ ap (λ (k : ℤ). signed (sign_of x) (size_of x) *ℤ k +ℤ in_least z *ℤ pos (2 ^ 1074)) (least_is y (sign_of y) (size_of y) (value y Y))
      ∙ ap (λ (k : ℤ). k +ℤ in_least z *ℤ pos (2 ^ 1074)) (product_signed (sign_of x) (size_of x) (sign_of y) (size_of y))
      ∙ ap (λ (k : ℤ). signed (unlike (sign_of x) (sign_of y)) (size_of x * size_of y) +ℤ k) (scaled z (sign_of z) (size_of z) (value z Z))
      ∙ total.equals

  off_is : (w : Float) (s : Bool) (n : ℕ) → HasValue w s n (2 ^ 1074)
      → off w x y z ≡ unsigned_abs (signed s (n * 2 ^ 1074) -ℤ signed total.sign total.size)
  off_is w s n h =
      ap (λ (k : ℤ). unsigned_abs (k -ℤ exact x y z)) (scaled w s n h)
      ∙ ap (λ (k : ℤ). unsigned_abs (signed s (n * 2 ^ 1074) -ℤ k)) exactly

  result_value : finite (mul_add x y z) ≡ true → HasValue (mul_add x y z) (sign_of (mul_add x y z)) (size_of (mul_add x y z)) (2 ^ 1074)
  result_value F =
      value (mul_add x y z) (
        subst (λ (r : Float). T (fits binary64 r)) (sym result) (round-fits binary64 total.sign total.size (2 ^ 2148)),
        F,
      )

  round_value : finite (mul_add x y z) ≡ true
      → HasValue (round binary64 total.sign total.size (2 ^ 2148)) (sign_of (mul_add x y z)) (size_of (mul_add x y z)) (2 ^ 1074)
  round_value F = subst (λ (r : Float). HasValue r (sign_of (mul_add x y z)) (size_of (mul_add x y z)) (2 ^ 1074)) result (result_value F)

  size_is : unsigned_abs (exact x y z) ≡ total.size
  size_is = ap unsigned_abs exactly ∙ size_signed total.sign total.size

  -- no finite double is nearer to x × y + z than the result
  pub nearest_double : finite (mul_add x y z) ≡ true → (w : Float) → Double w → off (mul_add x y z) x y z ≤ off w x y z
  nearest_double F w W =
      le_trans (le_of_eq (off_is (mul_add x y z) (sign_of (mul_add x y z)) (size_of (mul_add x y z)) (result_value F)))
      (le_trans
      (round_nearest total.sign total.size (sign_of (mul_add x y z)) (size_of (mul_add x y z)) (round_value F) (sign_of w)
      (significand_of (to_bits binary64 w)) (exponent_of (to_bits binary64 w)) (significand_lt (to_bits binary64 w)))
      (le_of_eq (sym (off_is w (sign_of w) (size_of w) (value w W)))))

  -- and where another number is as near, the result is the one with the even significand: the last bit of its pattern is 0
  pub ties_to_even : finite (mul_add x y z) ≡ true → (w : Float) → Double w → off (mul_add x y z) x y z ≡ off w x y z
      → (in_least (mul_add x y z) ≢ in_least w)
      → to_bits binary64 (mul_add x y z) % 2 ≡ 0
  ties_to_even F w W e n =
      ap (λ (r : Float). to_bits binary64 r % 2) result
      ∙ round_even total.sign total.size (sign_of (mul_add x y z)) (size_of (mul_add x y z)) (round_value F) (sign_of w)
      (significand_of (to_bits binary64 w)) (exponent_of (to_bits binary64 w)) (significand_lt (to_bits binary64 w))
      (sym (off_is (mul_add x y z) (sign_of (mul_add x y z)) (size_of (mul_add x y z)) (result_value F)) ∙ e ∙ off_is w (sign_of w) (size_of w) (value w W))
      (λ (h : signed (sign_of (mul_add x y z)) (size_of (mul_add x y z)) ≡ signed (sign_of w) (size_of w)).
      n (least_is (mul_add x y z) (sign_of (mul_add x y z)) (size_of (mul_add x y z)) (result_value F) ∙ h
      ∙ sym (least_is w (sign_of w) (size_of w) (value w W))))

  -- the result is finite where |x × y + z| is below 2 ^ 1024 - 2 ^ 970, half way from the largest double to 2 ^ 1024
  pub finite_below : unsigned_abs (exact x y z) < limit → finite (mul_add x y z) ≡ true
  finite_below h = ap finite result ∙ round_finite total.sign total.size (lt_of_le_of_lt (le_of_eq (sym size_is)) h)

  -- and from there on it is the infinity of the same sign
  pub infinite_from : limit ≤ unsigned_abs (exact x y z) → mul_add x y z ≡ inf (negative (exact x y z))
  infinite_from h =
      result ∙ round_infinite total.sign total.size (le_trans h (le_of_eq size_is))
      ∙ ap inf (sym (ap negative exactly ∙ sign_is total.sign total.size (lt_of_lt_of_le (lit< tt) (le_trans h (le_of_eq size_is)))))
    where
      sign_is : (s : Bool) (n : ℕ) → 0 < n → negative (signed s n) ≡ s
      sign_is false n h = refl
      sign_is true zero h = absurd (omega arith)
      sign_is true (suc n) h = refl
