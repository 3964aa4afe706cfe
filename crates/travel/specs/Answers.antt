-- What a run is answered with: the seconds, or nothing, which is 21 to a host; its number and value. Assumes nothing.
use Rattle.std.specs.Prelude.{ℕ, cond, Float, Option, Some, None}
use Rattle.travel.specs.Ramps.{seconds}
use Rattle.travel.specs.Domain.{in_domain}

-- "21, without a time, when an input lies outside the domain"
unfoldable pub travel_time_of : Float → Float → Float → Float → Float → Option Float
travel_time_of d v m a b = cond (in_domain d v m a b) (Some (seconds d v m a b)) None

-- ---- for a host: the number, 0 where there is a time, and what stands in the place lent for the seconds

abbrev pub travel_number : Option Float → ℕ
travel_number (Some t) = 0
travel_number None = 21

abbrev pub seconds_left : Option Float → Float → Float
seconds_left (Some t) entry = t
seconds_left None entry = entry
