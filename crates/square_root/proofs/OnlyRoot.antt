-- The real root of a finite double above zero lies nearer to its square root than to any other double, and the square root is the only such double.
-- Assumes nothing.
use Rattle.std.specs.Prelude.{ℕ, ◌+◌, ◌*◌, ◌<◌, ◌≡◌, true, leb, Float}
use Rattle.std.proofs.Common.{le_of_eq, le_of_lt, lt_of_lt_of_le, lt_of_le_of_lt, lt_irrefl, add_comm, arith, sym, ap}
use Rattle.std.specs.Float.{binary64}
use Rattle.std.specs.Float.Ieee.{lt, to_bits}
use Rattle.fp.specs.Num as Num
use Rattle.fp.specs.Num.{finite}
use Rattle.fp.specs.Fields.{sign_one}
use Rattle.rounding.specs.Unpack.{significand_of, exponent_of, significand_lt, value_of}
use Rattle.multiply_add.specs.Nearest.{Double}
use Rattle.square_root.specs.SquareRoot.{square_root}
use Rattle.square_root.specs.Nearest.{Nearer, leasts, leasts_is}
use Rattle.square_root.proofs.Nearest.{root_double, nearer_root}

module _ (x : Float) (X : Double x) (above : lt Num.zero x ≡ true) where
  -- beside any finite double y of at least zero: the real root lies nearer to the result, unless y is the result
  pub nearest_root_lem : (y : Float) → Double y → Nearer (leasts x) (leasts (square_root x)) (leasts y)
  nearest_root_lem y Y =
      let b = to_bits binary64 y in
      rw (leasts_is y (leb sign_one b) _ (value_of y Y.0 Y.1)) (nearer_root x X above (significand_of b) (exponent_of b) (significand_lt b))

  -- so the result is the only such double
  pub only_root : (w : Float) → Double w → ((y : Float) → Double y → Nearer (leasts x) (leasts w) (leasts y)) → leasts w ≡ leasts (square_root x)
  only_root w W h = same (nearest_root_lem w W) (h (square_root x) (root_double x X above).0)
    where
      swap : (a b : ℕ) → (b + a) * (b + a) ≡ (a + b) * (a + b)
      swap a b = ap (λ (z : ℕ). z * z) (add_comm b a)

      none : {n a b : ℕ} → a < b → Nearer n a b → Nearer n b a → ⊥
      none {n} {a} {b} l u v =
          lt_irrefl ((a + b) * (a + b))
          (lt_of_le_of_lt (le_of_eq (sym (swap a b))) (lt_of_lt_of_le (v.than_below l) (le_of_lt (u.than_above l))))

      equal : {a b : ℕ} → (a < b → ⊥) → (b < a → ⊥) → a ≡ b
      equal f g = omega arith

      same : {n a b : ℕ} → Nearer n a b → Nearer n b a → b ≡ a
      same u v = equal (λ l. none l v u) (λ l. none l u v)
