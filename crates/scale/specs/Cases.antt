-- Costs on both sides of a half, of the ceiling and of the sentinel's tests, computed. Assumes nothing.
use Rattle.std.specs.Prelude.{ℕ, ◌≡◌, refl, Bool, true, false}
use Rattle.std.specs.Float.{binary64}
use Rattle.std.specs.Float.Ieee.{of_bits, mul, lt}
use Rattle.scale.specs.Scale.{scale_cost, held_down, whole, above_ceiling, sentinel, ceiling}

-- the cell of the cost whose bits are n, and whether its value was held down
abbrev pub scaled : ℕ → ℕ × Bool
scaled n = (scale_cost (of_bits binary64 n), held_down (of_bits binary64 n))

-- 0.0078125: 7,812.5 goes up, to an odd number
pub half_up : scaled 0x3f80_0000_0000_0000 ≡ (7_813, false)
unfolding scale_cost held_down whole above_ceiling mul lt of_bits
half_up = refl

-- 0.00390625: 3,906.25
pub below_half : scaled 0x3f70_0000_0000_0000 ≡ (3_906, false)
unfolding scale_cost held_down whole above_ceiling mul lt of_bits
below_half = refl

-- 281,474,976
pub below_ceiling : scaled 0x41b0_c6f7_a000_0000 ≡ (281_474_976_000_000, false)
unfolding scale_cost held_down whole above_ceiling mul lt of_bits
below_ceiling = refl

-- 281,474,977
pub held : scaled 0x41b0_c6f7_a100_0000 ≡ (ceiling, true)
unfolding scale_cost held_down whole above_ceiling mul lt of_bits
held = refl

-- 281,474,976.710655: "A value that rounds exactly to the ceiling isn't held."
pub exactly_ceiling : scaled 0x41b0_c6f7_a0b5_ed7c ≡ (ceiling, false)
unfolding scale_cost held_down whole above_ceiling mul lt of_bits
exactly_ceiling = refl

-- the last cost that rounds to the ceiling, and the first beyond, whose product is 281,474,976,710,655.5
pub last_not_held : scaled 0x41b0_c6f7_a0b5_ed84 ≡ (ceiling, false)
unfolding scale_cost held_down whole above_ceiling mul lt of_bits
last_not_held = refl

pub first_held : scaled 0x41b0_c6f7_a0b5_ed85 ≡ (ceiling, true)
unfolding scale_cost held_down whole above_ceiling mul lt of_bits
first_held = refl

-- minus zero isn't below zero
pub minus_zero : scaled 0x8000_0000_0000_0000 ≡ (0, false)
unfolding scale_cost held_down whole above_ceiling mul lt of_bits
minus_zero = refl

-- the greatest double: its product is infinite
pub greatest : scaled 0x7fef_ffff_ffff_ffff ≡ (ceiling, true)
unfolding scale_cost held_down whole above_ceiling mul lt of_bits
greatest = refl

-- an infinity, a NaN, and the least double below zero
pub infinite : scaled 0x7ff0_0000_0000_0000 ≡ (sentinel, false)
unfolding scale_cost held_down whole above_ceiling mul lt of_bits
infinite = refl

pub no_number : scaled 0x7ff8_0000_0000_0000 ≡ (sentinel, false)
unfolding scale_cost held_down whole above_ceiling mul lt of_bits
no_number = refl

pub below_zero : scaled 0x8000_0000_0000_0001 ≡ (sentinel, false)
unfolding scale_cost held_down whole above_ceiling mul lt of_bits
below_zero = refl
