-- Columns of a sheet. Assumes nothing.
use Rattle.std.specs.Prelude.{ℕ, ◌<◌, ◌≡◌, true, cond, List, get_or}
use Rattle.mask.specs.Mask.{has}
use Rattle.components.specs.declared.Car.{Car}
use Rattle.components.specs.Cars.{servicing}
use Rattle.components.specs.Sheet.{Sheet}
use Rattle.manifest.specs.World.{stop_id}
use Rattle.manifest.specs.Stops.{Ascending}

-- the target of a car that serves it, else 0
abbrev pub served_target : Car → ℕ
served_target c = cond (servicing c.phase) c.target 0

-- a list holds the ids of the stops, none of them 0, which rise; and the stops of a mask have a record
pub record HoldsIds (s : Sheet) (stops : ℕ) (ids : List ℕ) : Type 0 where
  pub held : (j : ℕ) → j < s.stops → get_or ids j 0 ≡ stop_id s j
  pub above_zero : (j : ℕ) → j < s.stops → 0 < stop_id s j
  pub rising : Ascending ids s.stops
  pub recorded : (j : ℕ) → j < 64 → has stops j ≡ true → j < s.stops

-- and so for some of them
pub fewer_stops : (s : Sheet) (stops fewer : ℕ) (ids : List ℕ) → HoldsIds s stops ids → ((j : ℕ) → j < 64 → has fewer j ≡ true → has stops j ≡ true)
    → HoldsIds s fewer ids
fewer_stops s stops fewer ids h f =
    record { held = h.held; above_zero = h.above_zero; rising = h.rising; recorded = λ j l t. h.recorded j l (f j l t) }
