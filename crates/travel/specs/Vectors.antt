-- Worked runs, by computation: distance, starting speed, top speed and the two rates, each by its bits. Assumes nothing.
use Rattle.std.specs.Prelude.{ℕ, ◌≡◌, refl, Some, None}
use Rattle.std.specs.Int.Count.{count_trailing_zeros}
use Rattle.std.specs.Float.{binary64}
use Rattle.std.specs.Float.Ieee.{size, span, climb, units, odd, round, sum, neg, add, sub, mul, div, lt, le, eq, of_fields, of_bits}
use Rattle.multiply_add.specs.MulAdd.{mul_add}
use Rattle.square_root.specs.SquareRoot.{square_root, nearest_root, whole_root, whole_in}
use Rattle.travel.specs.Ramps.{no_run, clamp_speed, brake_distance, brake_time, peak_speed, triangle_time, ramp_distance, cruise_distance}
use Rattle.travel.specs.Ramps.{trapezoid_time, run_time, seconds}
use Rattle.travel.specs.Domain.{is_sized, is_rate, in_domain}
use Rattle.travel.specs.Answers.{travel_time_of}

-- one name that opens every definition
unfoldable pub running : ℕ
unfolding count_trailing_zeros size span climb units odd round sum neg add sub mul div lt le eq of_fields of_bits mul_add square_root nearest_root whole_root whole_in no_run clamp_speed brake_distance brake_time peak_speed triangle_time ramp_distance cruise_distance trapezoid_time run_time seconds is_sized is_rate in_domain travel_time_of
running = 0

abbrev Takes : ℕ → ℕ → ℕ → ℕ → ℕ → ℕ → Type 0
Takes d v m a b t =
    travel_time_of (of_bits binary64 d) (of_bits binary64 v) (of_bits binary64 m) (of_bits binary64 a) (of_bits binary64 b) ≡ Some (of_bits binary64 t)

abbrev Outside : ℕ → ℕ → ℕ → ℕ → ℕ → Type 0
Outside d v m a b = travel_time_of (of_bits binary64 d) (of_bits binary64 v) (of_bits binary64 m) (of_bits binary64 a) (of_bits binary64 b) ≡ None

-- 12 from rest, by 2.5, 1 and 1.2: with a cruise, 7.091666666666667
cruise : Takes 0x4028_0000_0000_0000 0 0x4004_0000_0000_0000 0x3ff0_0000_0000_0000 0x3ff3_3333_3333_3333 0x401c_5ddd_dddd_ddde
unfolding running
cruise = refl

-- 3 from rest: no cruise, 3.3166247903554
triangle : Takes 0x4008_0000_0000_0000 0 0x4004_0000_0000_0000 0x3ff0_0000_0000_0000 0x3ff3_3333_3333_3333 0x400a_8872_93fd_6f34
unfolding running
triangle = refl

-- 0.5 from a speed of 2: braking all the way, 0.2722332891098741
braking : Takes 0x3fe0_0000_0000_0000 0x4000_0000_0000_0000 0x4004_0000_0000_0000 0x3ff0_0000_0000_0000 0x3ff3_3333_3333_3333 0x3fd1_6c45_2c67_00c6
unfolding running
braking = refl

-- 0.140625 from 1.54, by 2.6: with the mul_add rounded twice it would be 6 steps more
once : Takes 0x3fc2_0000_0000_0000 0x3ff8_a3d7_0a3d_70a4 0x4004_0000_0000_0000 0x3ff0_0000_0000_0000 0x4004_cccc_cccc_cccd 0x3fb9_8667_dc93_ce0c
unfolding running
once = refl

-- a speed below zero is 0, one above the top speed is that
slow : Takes 0x4028_0000_0000_0000 0xbff0_0000_0000_0000 0x4004_0000_0000_0000 0x3ff0_0000_0000_0000 0x3ff3_3333_3333_3333 0x401c_5ddd_dddd_ddde
unfolding running
slow = refl

fast : Takes 0x4028_0000_0000_0000 0x4022_0000_0000_0000 0x4004_0000_0000_0000 0x3ff0_0000_0000_0000 0x3ff3_3333_3333_3333 0x4017_5ddd_dddd_ddde
unfolding running
fast = refl

-- no distance, no top speed: 0
nowhere : Takes 0 0x3ff0_0000_0000_0000 0x4004_0000_0000_0000 0x3ff0_0000_0000_0000 0x3ff3_3333_3333_3333 0
unfolding running
nowhere = refl

standing : Takes 0x4028_0000_0000_0000 0 0x8000_0000_0000_0000 0x3ff0_0000_0000_0000 0x3ff3_3333_3333_3333 0
unfolding running
standing = refl

-- the ends of the domain: 1,000,000 by 1/1,024, 1/1,024 and 1/1,024
ends : Takes 0x412e_8480_0000_0000 0x412e_8480_0000_0000 0x3f50_0000_0000_0000 0x3f50_0000_0000_0000 0x3f50_0000_0000_0000 0x41ce_8480_0040_0000
unfolding running
ends = refl

-- The least double from 1e-200, by 1, 1/1,024 and 1: the square of the speed is too small for a double, the peak comes out as 0 below the speed, and
-- the time below zero.
below_zero : Takes 1 0x1668_7e92_154e_f7ac 0x3ff0_0000_0000_0000 0x3f50_0000_0000_0000 0x3ff0_0000_0000_0000 0x9708_7e92_154e_f7ac
unfolding running
below_zero = refl

-- a rate one step below 1/1,024, a distance one step above 1,000,000, a speed that is no number
low_rate : Outside 0x4028_0000_0000_0000 0 0x4004_0000_0000_0000 0x3f4f_ffff_ffff_ffff 0x3ff3_3333_3333_3333
unfolding running
low_rate = refl

far : Outside 0x412e_8480_0000_0001 0 0x4004_0000_0000_0000 0x3ff0_0000_0000_0000 0x3ff3_3333_3333_3333
unfolding running
far = refl

no_number : Outside 0x4028_0000_0000_0000 0x7ff8_0000_0000_0000 0x4004_0000_0000_0000 0x3ff0_0000_0000_0000 0x3ff3_3333_3333_3333
unfolding running
no_number = refl
