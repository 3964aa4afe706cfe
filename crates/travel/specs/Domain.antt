-- "The inputs distance, starting speed, top speed and the two rates are doubles of at most 1,000,000 in size, and the last three at least 1/1,024 or
-- not above zero." `le` is false at a NaN, so that a NaN lies outside. Assumes nothing.
use Rattle.std.specs.Prelude.{Bool, ◌&&◌, ◌||◌, Float}
use Rattle.std.specs.Float.Ieee.{neg, le}
use Rattle.fp.specs.Num.{zero, million}
use Rattle.fp.specs.Ranges.{within, least_speed}

-- "of at most 1,000,000 in size"
unfoldable pub is_sized : Float → Bool
is_sized x = within (neg million) x million

-- "and the last three at least 1/1,024 or not above zero"
unfoldable pub is_rate : Float → Bool
is_rate x = is_sized x && (le least_speed x || le x zero)

unfoldable pub in_domain : Float → Float → Float → Float → Float → Bool
in_domain d v m a b = (((is_sized d && is_sized v) && is_rate m) && is_rate a) && is_rate b
