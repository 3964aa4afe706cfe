-- Worked roots, by computation. Assumes nothing.
use Rattle.std.specs.Prelude.{ℕ, ◌≡◌, refl}
use Rattle.std.specs.Int.Count.{count_trailing_zeros}
use Rattle.std.specs.Float.{binary64}
use Rattle.std.specs.Float.Ieee.{size, span, climb, units, odd, of_fields, of_bits}
use Rattle.square_root.specs.SquareRoot.{square_root, nearest_root, whole_root, whole_in}

-- the root of x is r, each by its bits
abbrev Is : ℕ → ℕ → Type 0
Is x r = square_root (of_bits binary64 x) ≡ of_bits binary64 r

-- one name that opens every definition
unfoldable pub rooting : ℕ
unfolding square_root nearest_root whole_root whole_in units odd size span climb of_bits of_fields count_trailing_zeros
rooting = 0

-- 2
two : Is 0x4000_0000_0000_0000 0x3ff6_a09e_667f_3bcd
unfolding rooting
two = refl

-- 9
nine : Is 0x4022_0000_0000_0000 0x4008_0000_0000_0000
unfolding rooting
nine = refl

-- the least double, 2 ^ -1074, and the largest
least : Is 0x0000_0000_0000_0001 0x1e60_0000_0000_0000
unfolding rooting
least = refl

most : Is 0x7fef_ffff_ffff_ffff 0x5fef_ffff_ffff_ffff
unfolding rooting
most = refl

-- just below 1: down to the double below; just above 1: down to 1
below_one : Is 0x3fef_ffff_ffff_ffff 0x3fef_ffff_ffff_ffff
unfolding rooting
below_one = refl

above_one : Is 0x3ff0_0000_0000_0001 0x3ff0_0000_0000_0000
unfolding rooting
above_one = refl

-- zeros, infinity, and what has no root
zero : Is 0x0000_0000_0000_0000 0x0000_0000_0000_0000
unfolding rooting
zero = refl

minus_zero : Is 0x8000_0000_0000_0000 0x8000_0000_0000_0000
unfolding rooting
minus_zero = refl

infinity : Is 0x7ff0_0000_0000_0000 0x7ff0_0000_0000_0000
unfolding rooting
infinity = refl

minus_one : Is 0xbff0_0000_0000_0000 0x7ff8_0000_0000_0000
unfolding rooting
minus_one = refl
