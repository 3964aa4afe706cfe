-- The stops that a car is ranked for: on its line, not restricted, within the candidate limit. Assumes nothing.
use Rattle.std.specs.Prelude.{ℕ, Bool, not, ◌&&◌, ◌||◌, eqb, ltb, Float}
use Rattle.std.specs.Float.Ieee.{lt}
use Rattle.laws.specs.Folds.{any, count}
use Rattle.mask.specs.Mask.{has}
use Rattle.components.specs.declared.Car.{Car}
use Rattle.components.specs.Points.{distance}
use Rattle.components.specs.Sheet.{Sheet}
use Rattle.manifest.specs.World.{stop_id, stop_at}
use Rattle.assignment.specs.Pending.{pending}

-- "65,535: none"
abbrev pub no_limit : ℕ
no_limit = 65535

-- a stop with c viable ones before it is among those that a limit keeps
unfoldable pub keeps : ℕ → ℕ → Bool
keeps limit c = eqb limit no_limit || ltb c limit

-- of two distances with their ids, the first comes before the second: "the nearest by distance, then id"
unfoldable pub precedes : Float → ℕ → Float → ℕ → Bool
precedes x a y b = lt x y || (not (lt y x) && ltb a b)

-- ---- of a car by value

module _ (s : Sheet) (car : Car) where
  -- "A line serves the stops of its mask": the car's line serves stop j
  unfoldable pub line_serves_of : ℕ → Bool
  line_serves_of j = any (λ l. eqb (s.line l).id car.line && has (s.line l).serves j) s.lines

  -- "a stop is barred to a car by its bit in the car's restricted mask"
  abbrev pub barred_of : ℕ → Bool
  barred_of j = has car.restricted j

  -- "Viable: pending, not restricted, on the car's line."
  unfoldable pub viable_of : ℕ → Bool
  viable_of j = pending s j && (not (barred_of j) && line_serves_of j)

  -- F-12: "Every distance becomes the sum of the two absolute differences, in the candidate cut"
  abbrev pub away_of : ℕ → Float
  away_of j = distance car.position (stop_at s j)

  -- how many viable stops come before stop j
  unfoldable pub nearer_of : ℕ → ℕ
  nearer_of j = count (λ k. viable_of k && precedes (away_of k) (stop_id s k) (away_of j) (stop_id s j)) s.stops

  -- "The limit keeps the nearest by distance, then id."
  unfoldable pub kept_of : ℕ → ℕ → Bool
  kept_of limit j = viable_of j && keeps limit (nearer_of j)

-- ---- of car record i

module _ (s : Sheet) (i : ℕ) where
  abbrev pub line_serves : ℕ → Bool
  line_serves j = line_serves_of s (s.car i) j

  abbrev pub barred : ℕ → Bool
  barred j = barred_of s (s.car i) j

  abbrev pub viable : ℕ → Bool
  viable j = viable_of s (s.car i) j

  -- how many stops are viable
  unfoldable pub viable_stops : ℕ
  viable_stops = count viable s.stops

  abbrev pub away : ℕ → Float
  away j = away_of s (s.car i) j

  abbrev pub nearer : ℕ → ℕ
  nearer j = nearer_of s (s.car i) j

  abbrev pub kept : ℕ → ℕ → Bool
  kept limit j = kept_of s (s.car i) limit j
