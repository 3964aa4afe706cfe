-- The square root of a finite double above zero is a finite double, and the real root lies nearer to it than to any other number of at most 53 digits.
-- Assumes nothing.
use Rattle.std.specs.Prelude.{ℕ, ◌+◌, ◌-◌, ◌*◌, ◌^◌, ◌<◌, ◌≡◌, true, false, T, leb, Float}
use Rattle.std.proofs.Common.{subst}
use Rattle.std.specs.Float.{binary64}
use Rattle.std.specs.Float.Ieee.{lt, le, fits, to_bits}
use Rattle.std.specs.Float.Ieee.Exact.{HasValue}
use Rattle.fp.specs.Num as Num
use Rattle.fp.specs.Num.{finite}
use Rattle.fp.specs.Fields.{field_one, sign_one}
use Rattle.rounding.specs.Unpack.{significand_of, exponent_of, significand_lt, exponent_lt, value_of}
use Rattle.multiply_add.specs.Nearest.{Double}
use Rattle.square_root.specs.SquareRoot.{whole_root, nearest_root, square_root}
use Rattle.square_root.specs.Spread.{evened_double}
use Rattle.square_root.specs.Kept.{last_digit, some_significand, root_is}
use Rattle.square_root.specs.Nearest.{Nearer, nearer_at, rooted, leasts, leasts_is, signless}
use Rattle.square_root.proofs.Middle.{root_value, root_fits}

-- the root of j * 2 ^ i least doubles
record NearestRoot (n a : ℕ) : Type 0 where
  fitting : T (fits binary64 (nearest_root n))
  value : HasValue (nearest_root n) false a (2 ^ 1074)
  nearer : (j i : ℕ) → j < 2 ^ 53 → Nearer n a (j * 2 ^ i)

nearest_at : (t i : ℕ) → 0 < t → t < 2 ^ 53 → i < 2047 → (a : ℕ) × NearestRoot (t * 2 ^ i) a
nearest_at t i p l b =
    let (e, h, s) = evened_double t i p l b in
    let x = e * field_one in
    let q = whole_root x in
    let r = x - q * q in (
      last_digit q r * 2 ^ (h + 485),
      record {
        fitting = root_fits (t * 2 ^ i) e h q r s (rooted x);
        value = root_value (t * 2 ^ i) e h q r s (rooted x);
        nearer = λ j i' small. nearer_at (t * 2 ^ i) e h q r s (rooted x) j i' small;
      },
    )

-- ---- of doubles

module _ (x : Float) (X : Double x) (above : lt Num.zero x ≡ true) where
  abbrev place : ℕ
  place = exponent_of (to_bits binary64 x)

  size_is : leasts x ≡ significand_of (to_bits binary64 x) * 2 ^ place
  size_is = leasts_is x (leb sign_one (to_bits binary64 x)) _ (value_of x X.0 X.1)

  found : (a : ℕ) × NearestRoot (significand_of (to_bits binary64 x) * 2 ^ place) a
  found =
      nearest_at (significand_of (to_bits binary64 x)) place (some_significand x X.0 above X.1) (significand_lt (to_bits binary64 x))
      (exponent_lt (to_bits binary64 x))

  root_has : HasValue (square_root x) false found.0 (2 ^ 1074)
  root_has = subst (λ (y : Float). HasValue y false found.0 (2 ^ 1074)) (root_is x X.0 above X.1) found.1.value

  -- the root is a finite double of at least zero
  pub root_double : Double (square_root x) × (le Num.zero (square_root x) ≡ true)
  root_double =
      let (f, p) = signless (square_root x) found.0 root_has in
      ((subst (λ (y : Float). T (fits binary64 y)) (root_is x X.0 above X.1) found.1.fitting, f), p)

  -- beside any number of at most 53 digits
  pub nearer_root : (j i : ℕ) → j < 2 ^ 53 → Nearer (leasts x) (leasts (square_root x)) (j * 2 ^ i)
  nearer_root j i small =
      rw (size_is, leasts_is (square_root x) false found.0 root_has) (found.1.nearer j i small)
