-- Pending stops are the columns, idle cars the rows: pending_stops_minus_covered of assignment.rs. Assumes nothing.
use Rattle.std.specs.Prelude.{ℕ, max, Bool, not, ◌&&◌, ◌||◌, cond, eqb, Float}
use Rattle.std.specs.Float.Ieee.{le}
use Rattle.laws.specs.Folds.{fold, any, every, count, nth}
use Rattle.fp.specs.Num.{zero, plus}
use Rattle.components.specs.Cars.{servicing, remaining}
use Rattle.components.specs.Sheet.{Sheet}
use Rattle.manifest.specs.World.{stop_id}
use Rattle.manifest.specs.Manifest.{waits_at, demand_stop}

module _ (s : Sheet) where
  -- "Cars serve a stop if it is their target and their phase is 1, 3, 4 or 5." Idle-listed cars count like any other.
  unfoldable pub serves : ℕ → ℕ → Bool
  serves j i = eqb (s.car i).target (stop_id s j) && servicing (s.car i).phase

  -- the remaining capacities of those that serve j on line record l, added to a in record order
  unfoldable pub line_capacity : ℕ → Float → ℕ → Float
  line_capacity j a l =
      fold (λ b i. cond (eqb (s.car i).line (s.line l).id && serves j i) (plus b (remaining (s.car i))) b) a s.cars

  -- "their remaining capacities (capacity less load), added in group car order"; "Group cars go line by line, records in order."
  unfoldable pub capacity_at : ℕ → Float
  capacity_at j = fold (line_capacity j) zero s.lines

  -- "the waiters' weights, added in record order"
  unfoldable pub weight_at : ℕ → Float
  weight_at j = fold (λ a w. cond (waits_at s j w) (plus a (s.waiting w).weight) a) zero s.waits

  -- waiter w has no required line, or that of a car that serves j: "each waiter's required line, if it has one, is one of theirs"
  unfoldable pub line_served : ℕ → ℕ → Bool
  line_served j w = eqb (s.waiting w).line 0 || any (λ i. serves j i && eqb (s.car i).line (s.waiting w).line) s.cars

  -- "Covered: at least one serves it, each waiter's required line, if it has one, is one of theirs, and the waiters' weights, added in record order,
  -- are at most their remaining capacities"
  unfoldable pub covered_by_cars : ℕ → Bool
  covered_by_cars j =
      any (serves j) s.cars
      && (every (λ w. not (waits_at s j w) || line_served j w) s.waits && le (weight_at j) (capacity_at j))

  -- request F-2: "A new kind 8 names a stop (32 bits)"
  unfoldable pub closed_at : ℕ → Bool
  closed_at j = any (λ x. eqb (s.closed x) (stop_id s j)) s.closures

  -- and it "counts as covered whoever waits there". The ONE definition of coverage.
  unfoldable pub covered : ℕ → Bool
  covered j = closed_at j || covered_by_cars j

  -- "The idle cars are the idle-listed ones in record order."
  unfoldable pub idle : ℕ → Bool
  idle i = (s.car i).listed

  -- a rider of an idle car is bound for stop j
  unfoldable pub idle_bound : ℕ → Bool
  idle_bound j =
      any (λ a. eqb (s.aboard a).destination (stop_id s j) && any (λ i. idle i && eqb (s.car i).id (s.aboard a).car) s.cars) s.aboards

  -- "Pending stops: demand stops of the group, except covered ones no idle car's rider is bound for."; request F-6: "closure comes first and no car is
  -- sent there"
  unfoldable pub pending : ℕ → Bool
  pending j = not (closed_at j) && (demand_stop s j && (idle_bound j || not (covered j)))

  -- n, the number of idle cars, and the car record of row r
  unfoldable pub idle_cars : ℕ
  idle_cars = count idle s.cars

  unfoldable pub row_car : ℕ → ℕ
  row_car r = nth idle s.cars r

  -- m, the number of pending stops, and the stop record of column c
  unfoldable pub pending_stops : ℕ
  pending_stops = count pending s.stops

  unfoldable pub column_stop : ℕ → ℕ
  column_stop c = nth pending s.stops c

  -- "columns max(n, m)"
  unfoldable pub columns : ℕ
  columns = max idle_cars pending_stops
