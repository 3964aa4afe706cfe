-- What world.rs and the group answer of a sheet: a stop by its id, the riders of a car, the stops of the group. Assumes nothing.
use Rattle.std.specs.Prelude.{None, Option, Some}
use Rattle.std.specs.Prelude.{ℕ, Bool, eqb}
use Rattle.laws.specs.Folds.{any, lookup}
use Rattle.mask.specs.Mask.{has}
use Rattle.components.specs.declared.Point.{Point}
use Rattle.components.specs.declared.Phase.{Phase}
use Rattle.components.specs.declared.Phase.TheVariants.{Idle, MovingToStop, Repositioning, DoorOpening, Loading, DoorClosing, Stopped, Unknown}
use Rattle.components.specs.Sheet.{Sheet}

-- the stop that a moving phase holds, looked up; "the stop of any phase but 1 and 2" is unused
abbrev pub goal_of : (ℕ → Option Point) → Phase → Option Point
goal_of f Idle = None
goal_of f (MovingToStop id) = f id
goal_of f (Repositioning id) = f id
goal_of f DoorOpening = None
goal_of f Loading = None
goal_of f DoorClosing = None
goal_of f Stopped = None
goal_of f Unknown = None

module _ (s : Sheet) where
  abbrev pub stop_id : ℕ → ℕ
  stop_id j = (s.stop j).id

  abbrev pub stop_at : ℕ → Point
  stop_at j = (s.stop j).position

  -- stop_position: "Phase and target stops, destinations and a required line may name ids without a record; such a stop has no position."
  unfoldable pub stop_position : ℕ → Option Point
  stop_position id = lookup (λ j. eqb (stop_id j) id) (λ j. Some (stop_at j)) None s.stops

  -- where car i moves to: the position of its phase's moving_target
  unfoldable pub goal : ℕ → Option Point
  goal i = goal_of stop_position (s.car i).phase

  -- "the group's stops are those of any line"
  unfoldable pub in_group : ℕ → Bool
  in_group j = any (λ l. has (s.line l).serves j) s.lines

  -- rider a is in car i
  abbrev pub rides : ℕ → ℕ → Bool
  rides i a = eqb (s.aboard a).car (s.car i).id
