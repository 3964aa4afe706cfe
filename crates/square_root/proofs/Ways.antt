-- The ways of `root_bits` and of `sqrt`. Assumes nothing.
use Prim.Native.Nat.{ℕ, suc, ◌+◌, ◌*◌, ◌%◌, ◌≤◌, ◌<◌}
use native.Mathlib.Nat.{zero-mul, le_of_lt}
use native.Mathlib.Omega.{arith}
use mathlib.Core.Path.{◌≡◌, refl, sym, ap, ◌∙◌}
use mathlib.Core.Bool.{Bool, true, false, not}
use lib.IntN.{ℤ}
use lib.Dec.{T, eqb}
use lib.Ieee.{Float, nan, inf, fin, binary64, up, down, units, lt, le, eq, of_bits, nan_bits}
use lib.Ieee.Fits.{up_pos}
use lib.Ieee.Bits.{nan_bits_above}
use borrow.Author.Tests.{lt-ltb, le-ltb, ltb-false, eq-eqb, ne_eqb, eqb-true}
use Rattle.laws.specs.Bools.{never, both_left}
use Rattle.fp.specs.Num as Num
use Rattle.fp.specs.Num.{finite}
use Rattle.fp.specs.Fields.{field_one, sign_one}
use Rattle.fp.specs.Order.{no_digits, le_tells, le_not, le_antisym, lt-le, eq_ge}
use Rattle.square_root.specs.SquareRoot.{nearest_root, square_root}
use Rattle.square_root.specs.Steps.{Evened, Rooted}
use Rattle.square_root.specs.Kept.{packed, root_least, root_most, root_up}
use Rattle.square_root.proofs.Middle.{root_units}

-- ---- root_bits

module _ (n e h q r : ℕ) (s : Evened n 52 e h) (k : Rooted (e * field_one) q r) where
  pub way_up : q < r → of_bits binary64 ((h + 485) * field_one + (q + 1)) ≡ nearest_root n
  way_up g =
      let lo = root_least e q r k s.least in
      let H = s.half in
      packed (h + 485) (q + 1) (omega arith) (omega arith) (le_of_lt (root_up e q r k s.most g))
      ∙ sym (root_units n e h q r s k ∙ rw (lt-ltb q r g) (ap (λ (z : ℕ). units binary64 false z (h + 485)) one_more))
    where
      one_more : suc q ≡ q + 1
      one_more = omega arith

  pub way_down : r ≤ q → of_bits binary64 ((h + 485) * field_one + q) ≡ nearest_root n
  way_down g =
      let H = s.half in
      packed (h + 485) q (omega arith) (root_least e q r k s.least) (le_of_lt (root_most e q r k s.most))
      ∙ sym (root_units n e h q r s k ∙ rw (le-ltb q r g))

pub number_bits : (r : ℕ) → r < 0x7ff0_0000_0000_0000 → T (not (nan_bits binary64 r))
number_bits r h = rw (nan_bits_above binary64 r, le-ltb 0x7ff0_0000_0000_0000 (r % sign_one) (omega arith)) tt

-- ---- sqrt

pub way_infinite : (x : Float) → lt Num.zero x ≡ true → finite x ≡ false → x ≡ square_root x
unfolding square_root lt of_bits
way_infinite nan l f = never l
way_infinite (inf true) l f = never l
way_infinite (inf false) l f = refl
way_infinite (fin s m e) l f = never (sym f)

zero_root : (x : Float) → eq x Num.zero ≡ true → x ≡ square_root x
unfolding square_root eq of_bits
zero_root nan h = never h
zero_root (inf s) h = never h
zero_root (fin s m e) h =
    let p : m * up e * 1 ≡ 0 * down e = eqb-true _ _ (both_left (eqb (m * up e * 1) (0 * down e)) _ h) in
    rw (eq-eqb m 0 (no_digits m (up e) (up_pos e) (omega (arith, zero-mul (down e)))))

-- a zero of either sign
level_zero : (s : Bool) (m : ℕ) (e : ℤ) → m ≡ 0 → eq (fin s m e) Num.zero ≡ true
unfolding eq of_bits
level_zero true m e z = rw (z, zero-mul (up e), zero-mul (down e))
level_zero false m e z = rw (z, zero-mul (up e), zero-mul (down e))

none : (x : Float) → lt Num.zero x ≡ false → eq x Num.zero ≡ false → nan ≡ square_root x
unfolding square_root lt of_bits
none nan l h = refl
none (inf true) l h = refl
none (inf false) l h = never (sym l)
none (fin true m e) l h = rw (ne_eqb m 0 (λ (z : m ≡ 0). never (sym h ∙ level_zero true m e z)))
none (fin false m e) l h =
    let p : m * up e * 1 ≤ 0 * down e = ltb-false (0 * down e) (m * up e * 1) l in
    never (sym h ∙ level_zero false m e (no_digits m (up e) (up_pos e) (omega (arith, zero-mul (down e)))))

-- at least zero, and not above it
pub way_zero : (x : Float) → lt Num.zero x ≡ false → le Num.zero x ≡ true → x ≡ square_root x
way_zero x l h = let (z, r, n) = le_tells Num.zero x h in zero_root x (le_antisym x Num.zero (le_not x Num.zero r z l) h)

-- below zero, or a NaN
pub way_none : (x : Float) → le Num.zero x ≡ false → nan ≡ square_root x
way_none x h = none x (not_so _ (lt-le Num.zero x)) (not_so _ (eq_ge x Num.zero))
  where
    not_so : (a : Bool) → (a ≡ true → le Num.zero x ≡ true) → a ≡ false
    not_so true g = never (sym h ∙ g refl)
    not_so false g = refl
