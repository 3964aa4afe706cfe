-- Each constant is the double nearest to its decimal value. Assumes nothing.
use Rattle.std.specs.Prelude.{◌≡◌, ℕ, ◌+◌, ◌-◌, ◌*◌, ◌^◌, Bool, true, false, ◌&&◌, nat_lt, refl, Float}
use Rattle.std.specs.Float.{nan, inf, fin, binary64}
use Rattle.std.specs.Float.Ieee.{up, down, of_bits, of_int, round, size, div}
use Rattle.fp.specs.Num.{zero, one, half, three_tenths, epsilon, million, infinity, natural}
use Rattle.fp.specs.Ranges.{least_speed, thousand, billion}

-- ---- in whole numbers

-- x = m * 2^e, with m odd, is a number of 53 digits times 2^(e - (53 - size m)): that is how far its neighbours are, where m is not 1. This says
-- that x lies from n / d by less than half of that, so that no other double is as near: |m * 2^e - n / d| * 2^(54 - size m) < 2^e, times d.
abbrev pub near : Float → ℕ → ℕ → Bool
near nan n d = false
near (inf s) n d = false
near (fin true m e) n d = false
near (fin false m e) n d =
    nat_lt 1 m && nat_lt (((m * up e * d - n * down e) + (n * down e - m * up e * d)) * 2 ^ (54 - size m)) (up e * d)

-- 0.3, 1e-9
pub three_tenths_near : near three_tenths 3 10 ≡ true
unfolding of_bits size
three_tenths_near = refl

pub epsilon_near : near epsilon 1 1_000_000_000 ≡ true
unfolding of_bits size
epsilon_near = refl

-- ---- as the library rounds: `round` gives the double nearest to a fraction

pub three_tenths_is : three_tenths ≡ round binary64 false 3 10
unfolding of_bits round
three_tenths_is = refl

pub epsilon_is : epsilon ≡ round binary64 false 1 1_000_000_000
unfolding of_bits round
epsilon_is = refl

pub half_is : half ≡ round binary64 false 1 2
unfolding of_bits round
half_is = refl

pub least_speed_is : least_speed ≡ round binary64 false 1 1024
unfolding of_bits round
least_speed_is = refl

-- ---- the whole ones

pub zero_is : zero ≡ natural 0
unfolding of_bits of_int
zero_is = refl

pub one_is : one ≡ natural 1
unfolding of_bits of_int
one_is = refl

pub thousand_is : thousand ≡ natural 1_000
unfolding of_bits of_int
thousand_is = refl

pub million_is : million ≡ natural 1_000_000
unfolding of_bits of_int
million_is = refl

pub billion_is : billion ≡ natural 1_000_000_000
unfolding of_bits of_int
billion_is = refl

-- ---- what 1.0 / 0.0 is

pub infinity_is : infinity ≡ inf false
unfolding of_bits div
infinity_is = refl
