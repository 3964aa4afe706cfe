-- What waits at a stop, as one value that does not depend on a car: whether anyone does, whether a hall call has no rider, the two sums of wait
-- ticks, and the least weight among those who go up, who go down, and who do neither. Assumes nothing.
use Rattle.std.specs.Prelude.{None, Option, Some}
use Rattle.components.specs.declared.Point.{Point}
use Rattle.std.specs.Prelude.{ℕ, Bool, true, false, not, ◌||◌, cond, List, eqb, get_or, Float}
use Rattle.std.specs.Float.{nan}
use Rattle.std.specs.Float.Ieee.{lt}
use Rattle.laws.specs.Folds.{fold}
use Rattle.fp.specs.Num.{zero, infinity, plus, times, lesser, natural}
use Rattle.manifest.specs.Stops.{position_in}
use Rattle.manifest.specs.declared.Waiters.{Waiters}

-- a rider at p bound for a place goes up, goes down; one whose destination is unknown does neither. F-12: "Directions .. use the first coordinate."
abbrev pub goes_up : Float → Option Point → Bool
goes_up p None = false
goes_up p (Some d) = lt p d.along

abbrev pub goes_down : Float → Option Point → Bool
goes_down p None = false
goes_down p (Some d) = lt d.along p

abbrev pub stays_level : Float → Option Point → Bool
stays_level p d = not (goes_up p d || goes_down p d)

-- the lesser of a and w, where w counts
abbrev pub lesser_if : Bool → Float → Float → Float
lesser_if b a w = cond b (lesser a w) a

-- nobody waits: sums start at 0.0, the least weight of none is infinity
abbrev pub nobody : Bool → Waiters
nobody call = record { someone = false; call = call; waitsum = zero; squares = zero; up = infinity; down = infinity; level = infinity }

-- one rider more at p
unfoldable pub with_rider : Waiters → Float → Option Point → Float → ℕ → Waiters
with_rider v p d weight wait =
    record {
      someone = true;
      call = v.call;
      waitsum = plus v.waitsum (natural wait);
      squares = plus v.squares (times (natural wait) (natural wait));
      up = lesser_if (goes_up p d) v.up weight;
      down = lesser_if (goes_down p d) v.down weight;
      level = lesser_if (stays_level p d) v.level weight;
    }

-- the rider of a record, where it waits at the stop with this id, which stands at p
unfoldable pub meet : List ℕ → List Float → ℕ → ℕ → Float → Waiters → ℕ → ℕ → Float → ℕ → Waiters
meet ids xs n id p v stop dest weight wait = cond (eqb stop id) (with_rider v p (position_in ids xs n dest) weight wait) v

-- the riders of nw records who wait at stop j, in record order
unfoldable pub waiters_in : List ℕ → List Float → ℕ → ℕ → Bool → List ℕ → List ℕ → List Float → List ℕ → ℕ → Waiters
waiters_in ids xs n j call wstop wdest wweight wwait nw =
    fold
    (λ v w. meet ids xs n (get_or ids j 0) (get_or xs j nan) v (get_or wstop w 0) (get_or wdest w 0) (get_or wweight w nan) (get_or wwait w 0))
    (nobody call) nw
