-- SCAN over a sheet: scan.rs. F-12: "Directions .. use the first coordinate." Its cost is a distance, of both. Assumes nothing.
use Rattle.std.specs.Prelude.{None, Option}
use Rattle.std.specs.Prelude.{ℕ, Bool, false, ◌&&◌, cond, List, get_or, Float}
use Rattle.std.specs.Float.{nan}
use Rattle.laws.specs.Folds.{any}
use Rattle.mask.specs.Mask.{has}
use Rattle.components.specs.declared.Direction.{Direction}
use Rattle.components.specs.declared.Point.{Point}
use Rattle.components.specs.Sheet.{Sheet}
use Rattle.manifest.specs.World.{stop_at}
use Rattle.manifest.specs.Manifest.{demand_stop}
use Rattle.sweep.specs.Sweeps.{sweep_of, strictly_ahead, prepared, sweep_rank}
use Rattle.sweep.specs.declared.Sweep.{Sweep}
use Rattle.dispatch.specs.Useful.{pair_is_useful}

-- ---- by lists: n stops whose first coordinates begin xs, the demand stops as a mask

-- strict_demand_ahead: some demand stop is strictly ahead of a car at x
unfoldable pub demand_ahead : Direction → Float → ℕ → List Float → ℕ → Bool
demand_ahead d x demand xs n = any (λ j. has demand j && strictly_ahead d x (get_or xs j nan)) n

-- prepare_car, by lists
unfoldable pub prepared_by : Sweep → Float → ℕ → List Float → ℕ → Sweep
prepared_by w x demand xs n = prepared w (demand_ahead w.direction x demand xs n)

-- rank, of a pair that is useful or not
unfoldable pub rank_of : Sweep → Bool → Point → Point → Option Float
rank_of w useful x p = cond useful (sweep_rank w x p) None

-- ---- over a sheet

module _ (s : Sheet) where
  -- strict_demand_ahead: some demand stop of the group, a covered one too, is strictly ahead of the car
  unfoldable pub strict_demand_ahead : ℕ → Bool
  strict_demand_ahead i =
      any (λ j. demand_stop s j && strictly_ahead (s.car i).direction (s.car i).position.along (stop_at s j).along) s.stops

  -- prepare_car
  unfoldable pub prepared_sweep : ℕ → Sweep
  prepared_sweep i = prepared (sweep_of (s.car i)) (strict_demand_ahead i)

  -- rank, of car i with a sweep for stop j
  unfoldable pub scan_rank : Sweep → ℕ → ℕ → Option Float
  scan_rank w i j = rank_of w (pair_is_useful s i j false) (s.car i).position (stop_at s j)
