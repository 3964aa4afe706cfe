-- Ranks and cells over what the code holds. Assumes nothing.
use Rattle.std.specs.Prelude.{None, Option}
use Rattle.std.specs.Prelude.{ℕ, ◌+◌, ◌≤◌, ◌<◌, ◌≡◌, Bool, false, not, ◌&&◌, cond, List, eqb, length, get_or, Float}
use Rattle.mask.specs.Mask.{has}
use Rattle.scale.specs.Scale.{sentinel}
use Rattle.components.specs.declared.Car.{Car}
use Rattle.components.specs.declared.Strategy.{Strategy}
use Rattle.components.specs.declared.Strategy.TheVariants.{Etd}
use Rattle.manifest.specs.declared.Waiters.{Waiters}
use Rattle.manifest.specs.Stops.{point_in}
use Rattle.riders.specs.Riders.{HasPoints}
use Rattle.sweep.specs.declared.Sweep.{Sweep}
use Rattle.sweep.specs.Sweeps.{sweep_of}
use Rattle.scan.specs.Scan.{prepared_by, rank_of}
use Rattle.dispatch.specs.Pairs.{useful_by}
use Rattle.etd.specs.Pairs.{halts_at, rank_by as etdBy}
use Rattle.rsr.specs.Pairs.{rank_by as rsrBy}
use Rattle.assignment.specs.Cells.{by_strategy, rank_cell, rank_held}
use Rattle.dispatch.specs.declared.Row.{Row}

unfoldable pub scan_by : Row → List Float → Waiters → List Float → ℕ → Option Float
scan_by row dests v xs j =
    rank_of row.sweep (useful_by row.car row.goal row.riders dests v (has row.riders.exits j) (point_in xs j).along false)
    row.car.position (point_in xs j)

-- the demand stops between the row's car and stop j, for ETD
abbrev pub halts_by : Row → List Float → ℕ → ℕ → ℕ
halts_by row xs n j = halts_at row.car.position.along row.demand xs n j

-- a list that holds them for each of n stops, where the strategy asks for them
pub record HoldsHalts (row : Row) (xs : List Float) (n : ℕ) (halts : List ℕ) : Type 0 where
  pub size : n ≤ length halts
  pub at : row.policy.strategy ≡ Etd → (j : ℕ) → j < n → get_or halts j 0 ≡ halts_by row xs n j

-- what ranks take: the known destinations of a row's riders, and at most 64 stops with both coordinates
abbrev pub Ranks : ℕ → List Float → List Float → List Float → ℕ → Type 0
Ranks count along across xs n = HasPoints count along across × (n ≤ 64) × (64 + n ≤ length xs)

unfoldable pub rank_by : Row → List Float → List Float → Waiters → List Float → ℕ → ℕ → Option Float
rank_by row dests sides v xs n j =
    by_strategy row.policy.strategy
    (etdBy row.policy row.car row.goal row.riders dests sides v (halts_by row xs n j) xs j)
    (rsrBy row.policy row.car row.goal row.riders dests v xs j)
    (scan_by row dests v xs j)
    None

unfoldable pub cell_by : Row → List Float → List Float → Waiters → List Float → ℕ → ℕ → ℕ
cell_by row dests sides v xs n j = cond (has row.kept j) (rank_cell (rank_by row dests sides v xs n j)) sentinel

unfoldable pub held_by : Row → List Float → List Float → Waiters → List Float → ℕ → ℕ → Bool
held_by row dests sides v xs n j = has row.kept j && rank_held (rank_by row dests sides v xs n j)

-- the sweep after the pass of a car at a coordinate, by its sweep and whether it is idle-listed; the pending stops are those of a mask
unfoldable pub sweep_from : Strategy → Sweep → Bool → Float → ℕ → ℕ → List Float → ℕ → Sweep
sweep_from strategy sweep listed along pending demand xs n =
    by_strategy strategy sweep sweep (cond (listed && not (eqb pending 0)) (prepared_by sweep along demand xs n) sweep) sweep

-- that of a car
abbrev pub sweep_by : Strategy → Car → ℕ → ℕ → List Float → ℕ → Sweep
sweep_by strategy car = sweep_from strategy (sweep_of car) car.listed car.position.along
