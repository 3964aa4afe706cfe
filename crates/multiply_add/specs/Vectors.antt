-- Worked examples of `mul_add`, by computation: where one rounding differs from two, ties, subnormal results, overflow, and the signs of zero.
-- Assumes nothing.
use Rattle.std.specs.Prelude.{◌≡◌, ℕ, refl}
use Rattle.std.specs.Float.{binary64}
use Rattle.std.specs.Float.Ieee.{sum, of_bits}
use Rattle.multiply_add.specs.MulAdd.{mul_add}

-- a × b + c is r, each by its bits
abbrev Is : ℕ → ℕ → ℕ → ℕ → Type 0
Is a b c r = mul_add (of_bits binary64 a) (of_bits binary64 b) (of_bits binary64 c) ≡ of_bits binary64 r

-- 0.1 × 10 - 1 is 2 ^ -54, and 0 with two roundings
cents : Is 0x3fb9_9999_9999_999a 0x4024_0000_0000_0000 0xbff0_0000_0000_0000 0x3c90_0000_0000_0000
unfolding mul_add of_bits sum
cents = refl

-- (1 + 2 ^ -52) × (1 - 2 ^ -53) - 1 is 2 ^ -53 - 2 ^ -105, and 0 with two roundings
kept_digits : Is 0x3ff0_0000_0000_0001 0x3fef_ffff_ffff_ffff 0xbff0_0000_0000_0000 0x3c9f_ffff_ffff_fffe
unfolding mul_add of_bits sum
kept_digits = refl

-- with 2 ^ 53 in place of -1: 2 ^ 53 + 2, and 2 ^ 53 with two roundings
one_rounding : Is 0x3ff0_0000_0000_0001 0x3fef_ffff_ffff_ffff 0x4340_0000_0000_0000 0x4340_0000_0000_0001
unfolding mul_add of_bits sum
one_rounding = refl

-- 0.3 × 3 - 5
load : Is 0x3fd3_3333_3333_3333 0x4008_0000_0000_0000 0xc014_0000_0000_0000 0xc010_6666_6666_6666
unfolding mul_add of_bits sum
load = refl

-- 3 × 3002399751580331 = 2 ^ 53 + 1 is a tie, and goes down to the even 2 ^ 53
tie : Is 0x4008_0000_0000_0000 0x4325_5555_5555_5556 0x0000_0000_0000_0000 0x4340_0000_0000_0000
unfolding mul_add of_bits sum
tie = refl

-- with the least double added it is none, and goes up
tie_above : Is 0x4008_0000_0000_0000 0x4325_5555_5555_5556 0x0000_0000_0000_0001 0x4340_0000_0000_0001
unfolding mul_add of_bits sum
tie_above = refl

-- with the least double taken off it goes down
tie_below : Is 0x4008_0000_0000_0000 0x4325_5555_5555_5556 0x8000_0000_0000_0001 0x4340_0000_0000_0000
unfolding mul_add of_bits sum
tie_below = refl

-- 2 ^ 53 + 3 is a tie, and goes up to the even 2 ^ 53 + 4
tie_up : Is 0x3ff0_0000_0000_0000 0x3ff0_0000_0000_0000 0x4340_0000_0000_0001 0x4340_0000_0000_0002
unfolding mul_add of_bits sum
tie_up = refl

-- a subnormal result: 2 ^ -1023 + 2 ^ -1075 - 3 × 2 ^ -1074
subnormal : Is 0x0010_0000_0000_0001 0x3fe0_0000_0000_0000 0x8000_0000_0000_0003 0x0007_ffff_ffff_fffe
unfolding mul_add of_bits sum
subnormal = refl

-- half of the least double is a tie, and goes to 0
half_of_least : Is 0x0000_0000_0000_0001 0x3fe0_0000_0000_0000 0x0000_0000_0000_0000 0x0000_0000_0000_0000
unfolding mul_add of_bits sum
half_of_least = refl

-- three quarters of it go to the least double
over_half_of_least : Is 0x0000_0000_0000_0001 0x3fe8_0000_0000_0000 0x0000_0000_0000_0000 0x0000_0000_0000_0001
unfolding mul_add of_bits sum
over_half_of_least = refl

-- a sum above the largest double is the infinity
overflow : Is 0x7fef_ffff_ffff_ffff 0x4000_0000_0000_0000 0xffef_f7ce_d916_872a 0x7ff0_0000_0000_0000
unfolding mul_add of_bits sum
overflow = refl

-- twice the largest double less the largest double, and an infinity with two roundings
back_in_range : Is 0x7fef_ffff_ffff_ffff 0x4000_0000_0000_0000 0xffef_ffff_ffff_ffff 0x7fef_ffff_ffff_ffff
unfolding mul_add of_bits sum
back_in_range = refl

-- 3 × -2 + 6 is +0
zero_plus : Is 0x4008_0000_0000_0000 0xc000_0000_0000_0000 0x4018_0000_0000_0000 0x0000_0000_0000_0000
unfolding mul_add of_bits sum
zero_plus = refl

-- -0 × 2 + -0 is -0
zero_minus : Is 0x8000_0000_0000_0000 0x4000_0000_0000_0000 0x8000_0000_0000_0000 0x8000_0000_0000_0000
unfolding mul_add of_bits sum
zero_minus = refl

-- the largest double squared, and -inf: the third is the result, and a NaN with two roundings
third_infinite : Is 0x7fef_ffff_ffff_ffff 0x7fef_ffff_ffff_ffff 0xfff0_0000_0000_0000 0xfff0_0000_0000_0000
unfolding mul_add of_bits sum
third_infinite = refl
