-- The ranges of a sheet's doubles: what refusal 11 of document 01 leaves inside. `le` is false wherever a NaN stands and holds between the two
-- zeros, so a NaN lies outside of every range and minus zero counts as zero; an infinity lies past an end. Assumes nothing.
use Rattle.std.specs.Prelude.{Bool, ◌&&◌, ◌||◌, from_bits, Float}
use Rattle.std.specs.Float.{binary64}
use Rattle.std.specs.Float.Ieee.{neg, le, eq}
use Rattle.fp.specs.Num.{zero, one, million}

-- ---- the ends, each once

-- 1/1,024
abbrev pub least_speed : Float
least_speed = from_bits binary64 0x3f50_0000_0000_0000

-- 1,000: speeds and thresholds
abbrev pub thousand : Float
thousand = from_bits binary64 0x408f_4000_0000_0000

-- 1,000,000,000: capacity, load, rider weight and the six weights
abbrev pub billion : Float
billion = from_bits binary64 0x41cd_cd65_0000_0000

-- ---- the ranges

-- lo to hi, both ends inside
abbrev pub within : Float → Float → Float → Bool
within lo x hi = le lo x && le x hi

-- "positions -1,000,000 to 1,000,000"
unfoldable pub is_position : Float → Bool
is_position x = within (neg million) x million

-- "speed 0, or 1/1,024 to 1,000"
unfoldable pub is_speed : Float → Bool
is_speed x = eq x zero || within least_speed x thousand

-- "capacity, load, rider weight and the six weights 0 to 1,000,000,000"
unfoldable pub is_mass : Float → Bool
is_mass x = within zero x billion

-- "thresholds 0 to 1,000"
unfoldable pub is_threshold : Float → Bool
is_threshold x = within zero x thousand

-- "tick rate 1 to 1,000,000"
unfoldable pub is_tick_rate : Float → Bool
is_tick_rate x = within one x million
