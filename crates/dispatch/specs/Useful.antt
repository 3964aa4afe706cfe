-- Whether a car's trip to a stop does any work: pair_is_useful of mod.rs, "as there, in its order; the aboard-path test for RSR only". F-12:
-- "Directions, intervening stops and the aboard-path test use the first coordinate." Assumes nothing.
use Rattle.std.specs.Prelude.{None, Option, Some}
use Rattle.components.specs.declared.Point.{Point}
use Rattle.std.specs.Prelude.{ℕ, ◌≡◌, refl, Bool, true, false, not, ◌&&◌, ◌||◌, cond, eqb, Float}
use Rattle.std.specs.Float.Ieee.{lt, le}
use Rattle.laws.specs.Folds.{any}
use Rattle.fp.specs.Num.{zero, minus, times, over, abs}
use Rattle.components.specs.declared.Car.{Car}
use Rattle.components.specs.Cars.{remaining}
use Rattle.components.specs.Sheet.{Sheet}
use Rattle.manifest.specs.World.{stop_id, stop_at, stop_position, goal, rides}
use Rattle.manifest.specs.Manifest.{waits_at, someone_waits, riderless_call}

-- ---- on values: c a car, x its first coordinate, p the stop's

-- the car is at or above the threshold
abbrev pub loaded_to : Car → Option Float → Bool
loaded_to c None = false
loaded_to c (Some pct) = not (le c.capacity zero) && not (lt (over c.load c.capacity) pct)

-- bypass_in_current_direction: the car moves to g, is loaded to the threshold of that direction, and the stop lies that way
abbrev pub bypass : Car → Option Point → Float → Bool
bypass c None p = false
bypass c (Some g) p =
    cond (lt c.position.along g.along)
    (loaded_to c c.bypassup && lt c.position.along p)
    (lt g.along c.position.along && (loaded_to c c.bypassdown && lt p c.position.along))

-- the car's lamps let a rider bound for d board at p
abbrev pub lamps_allow : Car → Float → Option Point → Bool
lamps_allow c p None = true
lamps_allow c p (Some d) = not (lt p d.along && not c.up) && not (lt d.along p && not c.down)

-- rider_can_board
unfoldable pub rider_can_board : Car → Float → Float → Option Point → Bool
rider_can_board c p weight d = not (lt (remaining c) weight) && lamps_allow c p d

-- the stop is on the path to d: to_dest * to_cand >= 0.0 && to_cand.abs() <= to_dest.abs()
unfoldable pub on_path : Float → Float → Float → Bool
on_path x p d = le zero (times (minus d x) (minus p x)) && le (abs (minus p x)) (abs (minus d x))

abbrev pub on_path_to : Float → Float → Option Point → Bool
on_path_to x p None = false
on_path_to x p (Some d) = on_path x p d.along

-- the tests in their order, as one answer and as the number of the first that fails
pub by_tests : (here passes full some path : Bool)
    → (here || (not passes && (not full && (some && path)))) ≡ eqb (cond here 0 (cond passes 1 (cond full 2 (cond some (cond path 0 4) 3)))) 0
by_tests true passes full some path = refl
by_tests false true full some path = refl
by_tests false false true some path = refl
by_tests false false false true true = refl
by_tests false false false true false = refl
by_tests false false false false path = refl

-- ---- over a sheet

module _ (s : Sheet) (i j : ℕ) where
  -- can_exit_here: a rider of the car is bound for the stop
  unfoldable pub can_exit_here : Bool
  can_exit_here = any (λ a. rides s i a && eqb (s.aboard a).destination (stop_id s j)) s.aboards

  -- someone who waits can board; with nobody waiting, a hall call has no rider
  unfoldable pub servable : Bool
  servable =
      cond (someone_waits s j)
      (any (λ w. waits_at s j w && rider_can_board (s.car i) (stop_at s j).along (s.waiting w).weight (stop_position s (s.waiting w).destination))
      s.waits)
      (riderless_call s j)

  -- no rider aboard has a route, or the stop is on the path of one
  unfoldable pub on_aboard_path : Bool
  on_aboard_path =
      not (any (λ a. rides s i a && not (eqb (s.aboard a).destination 0)) s.aboards)
      || any (λ a. rides s i a && on_path_to (s.car i).position.along (stop_at s j).along (stop_position s (s.aboard a).destination)) s.aboards

  -- what stands against the trip, by the first test of pair_is_useful that fails: 0 nothing, 1 the car passes the stop by, 2 it is full, 3 nobody who
  -- waits can board, or nobody waits and no call is without a rider, 4 the stop is off the path of those aboard
  unfoldable pub obstacle : Bool → ℕ
  obstacle path =
      cond can_exit_here 0
      (cond (bypass (s.car i) (goal s i) (stop_at s j).along) 1
      (cond (le (remaining (s.car i)) zero) 2 (cond servable (cond (not path || on_aboard_path) 0 4) 3)))

  -- pair_is_useful, with respect_aboard_path
  unfoldable pub pair_is_useful : Bool → Bool
  pair_is_useful path =
      can_exit_here
      || (not (bypass (s.car i) (goal s i) (stop_at s j).along)
      && (not (le (remaining (s.car i)) zero) && (servable && (not path || on_aboard_path))))

-- where there is none, the trip does work
pub useful_obstacle : (s : Sheet) (i j : ℕ) (path : Bool) → pair_is_useful s i j path ≡ eqb (obstacle s i j path) 0
unfolding pair_is_useful obstacle
useful_obstacle s i j path =
    by_tests (can_exit_here s i j) (bypass (s.car i) (goal s i) (stop_at s j).along) (le (remaining (s.car i)) zero) (servable s i j)
    (not path || on_aboard_path s i j)
