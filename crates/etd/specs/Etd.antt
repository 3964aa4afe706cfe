-- ETD: etd.rs, with its order of operations. F-12: "Every distance becomes the sum of the two absolute differences, in .. travel, detours";
-- "Directions, intervening stops .. use the first coordinate." Assumes nothing.
use Rattle.std.specs.Prelude.{None, Option, Some}
use Rattle.std.specs.Prelude.{ℕ, ◌+◌, ◌*◌, Bool, false, ◌&&◌, cond, Float}
use Rattle.std.specs.Float.Ieee.{lt, le, neg}
use Rattle.laws.specs.Folds.{fold, count}
use Rattle.fp.specs.Num.{zero, half, three_tenths, epsilon, plus, minus, times, over, max_zero, fma, natural}
use Rattle.components.specs.declared.Point.{Point}
use Rattle.components.specs.declared.Phase.{Phase}
use Rattle.components.specs.Cars.{is_moving, is_idle}
use Rattle.components.specs.Points.{distance}
use Rattle.components.specs.Sheet.{Sheet}
use Rattle.manifest.specs.World.{stop_at, stop_position, goal, rides}
use Rattle.manifest.specs.Manifest.{demand_stop}
use Rattle.dispatch.specs.Useful.{pair_is_useful}
use Rattle.dispatch.specs.FiniteRank.{finite_rank}
use Rattle.dispatch.specs.Waits.{wait_ticks_sum, wait_ticks_squared_sum, with_bonus}
use Rattle.etd.specs.declared.Terms.{Terms}

-- ---- on values: x where the car stands, p where the stop does, as points or by their first coordinates

-- p' lies strictly between the two, by more than 1e-9 from either
unfoldable pub intervenes : Float → Float → Float → Bool
intervenes x p q = lt (plus (cond (lt x p) x p) epsilon) q && lt q (minus (cond (lt x p) p x) epsilon)

-- the door cycles of k intervening stops, in seconds
unfoldable pub door_cost : ℕ → ℕ → ℕ → Float → Float
door_cost k transition dwell rate = times (natural k) (over (natural (transition * 2 + dwell)) rate)

-- what the detour by the stop adds to the trip to d, in seconds
unfoldable pub extra_delay : Point → Point → Point → Float → Float
extra_delay x p d speed = over (max_zero (minus (plus (distance x p) (distance p d)) (distance x d))) speed

-- a rider's delay, added where the destination has a position
abbrev pub add_delay : Point → Point → Float → Float → Option Point → Float
add_delay x p speed a None = a
add_delay x p speed a (Some d) = plus a (extra_delay x p d speed)

-- the stop is ahead of a car that moves to g, up to g
unfoldable pub is_ahead : Float → Float → Float → Bool
is_ahead x p g = cond (lt x g) (lt x p && le p g) (lt p x && le g p)

-- half of the travel time off where the car moves past the stop
abbrev pub moving_bonus : Float → Float → Float → Option Point → Float
moving_bonus x p travel None = zero
moving_bonus x p travel (Some g) = cond (is_ahead x p g.along) (times (neg travel) half) zero

-- direction_bonus: that, three tenths off for an idle car, nothing for any other
unfoldable pub direction_bonus : Phase → Option Point → Float → Float → Float → Float
direction_bonus phase g x p travel =
    cond (is_moving phase) (moving_bonus x p travel g) (cond (is_idle phase) (times (neg travel) three_tenths) zero)

-- the weighted sum: wait, delay, door
unfoldable pub weighted : Float → Float → Float → Float → Float → Float → Float → Float
weighted wait delayWeight door travel delay doors bonus = max_zero (fma wait travel (fma delayWeight delay (fma door doors bonus)))

-- ---- over a sheet

module _ (s : Sheet) (i j : ℕ) where
  unfoldable pub travel_time : Float
  travel_time = over (distance (s.car i).position (stop_at s j)) (s.car i).speed

  -- "ETD counts intervening stops among all demand stops of the group, covered ones too."
  unfoldable pub intervening_stops : ℕ
  intervening_stops = count (λ k. demand_stop s k && intervenes (s.car i).position.along (stop_at s j).along (stop_at s k).along) s.stops

  -- existing_rider_delay, over the riders aboard in record order
  unfoldable pub rider_delay : Float
  rider_delay =
      fold
      (λ a b. cond (rides s i b) (add_delay (s.car i).position (stop_at s j) (s.car i).speed a (stop_position s (s.aboard b).destination)) a)
      zero s.aboards

  -- compute_cost, where the speed is above 0
  unfoldable pub compute_cost : Float
  compute_cost =
      weighted s.policy.w0 s.policy.w1 s.policy.w2 travel_time rider_delay
      (door_cost intervening_stops (s.car i).transition (s.car i).dwell s.policy.rate)
      (direction_bonus (s.car i).phase (goal s i) (s.car i).position.along (stop_at s j).along travel_time)

  -- the cost less both fairness bonuses, wait squared first
  abbrev pub fair_cost : Float
  fair_cost = with_bonus (with_bonus compute_cost s.policy.w3 (wait_ticks_squared_sum s j)) s.policy.w4 (wait_ticks_sum s j)

  -- what it is made of
  unfoldable pub etd_terms : Terms
  etd_terms =
      record {
        travel = travel_time;
        delay = rider_delay;
        doors = door_cost intervening_stops (s.car i).transition (s.car i).dwell s.policy.rate;
        bonus = direction_bonus (s.car i).phase (goal s i) (s.car i).position.along (stop_at s j).along travel_time;
        squares = wait_ticks_squared_sum s j;
        waitsum = wait_ticks_sum s j;
        sum = compute_cost;
        cost = fair_cost;
      }

  -- rank. "Speed 0 gives ETD and RSR no rank": the Rust comes to it by way of an infinite cost
  unfoldable pub etd_rank : Option Float
  etd_rank = cond (pair_is_useful s i j false && lt zero (s.car i).speed) (finite_rank fair_cost) None
