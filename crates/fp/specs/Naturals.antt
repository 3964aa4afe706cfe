-- Whole numbers as doubles: exact up to 2^53, and in order. Assumes nothing.
use Rattle.std.specs.Prelude.{◌≡◌, ℕ, ◌^◌, ◌<◌, ◌≤◌, true, false, refl}
use Rattle.std.proofs.Common.{mul-le-mul_right, le_of_lt, lit<}
use Rattle.std.specs.Float.{binary64}
use Rattle.std.specs.Float.Ieee.{of_int, le}
use Rattle.std.specs.Float.Ieee.Bits.{is_true}
use Rattle.std.specs.Float.Ieee.Back.{round_whole}
use Rattle.std.specs.Float.Ieee.Exact.{HasValue}
use Rattle.std.specs.Float.Ieee.Order.{round_mono}
use Rattle.fp.specs.Num.{natural, finite}
use Rattle.fp.specs.Nonneg.{natural_nonneg, finite_under}

-- the value is n / 1, with its sign clear
pub natural_exact : (n : ℕ) → n ≤ 2 ^ 53 → HasValue (natural n) false n 1
unfolding of_int
natural_exact n h = round_whole binary64 false n h

pub natural_mono : (a b : ℕ) → a ≤ b → le (natural a) (natural b) ≡ true
unfolding of_int
natural_mono a b h = is_true _ (round_mono binary64 a 1 b 1 (lit< tt) (lit< tt) (mul-le-mul_right 1 h))

greatest : finite (natural (2 ^ 64)) ≡ true
unfolding of_int
greatest = refl

-- every u64 gives a finite double
pub natural_finite : (n : ℕ) → n < 2 ^ 64 → finite (natural n) ≡ true
natural_finite n h = finite_under (natural n) (natural (2 ^ 64)) (natural_nonneg n) (natural_mono n (2 ^ 64) (le_of_lt h)) greatest
