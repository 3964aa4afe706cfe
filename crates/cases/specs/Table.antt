-- Document 01's cases P1 to P10, in its order and numbering, as one table that holds by computation: P1 to P3 of the choice, P4 to P6 of scale_cost,
-- P7 to P10 of the ranks that the pass uses, over sheets of one car; request F-9's of the choice, request F-5's, on both sides of the ceiling, and
-- request F-12's, of a stop to the side. Assumes nothing.
use Rattle.std.specs.Prelude.{None, Option}
use Rattle.std.specs.Prelude.{◌≡◌, refl, Bool, true, false, ◌&&◌, List, [], ◌∷◌, ℕ, ◌+◌, ltb, length, get_or, Float}
use Rattle.std.specs.Float.Ieee.{of_bits, add, sub, mul, div, neg, lt, le, eq, round, of_int}
use Rattle.std.specs.Float.{binary64}
use Rattle.laws.specs.Folds.{fold, any, every, count, nth, lookup}
use Rattle.fp.specs.Num.{zero, epsilon, natural, apart}
use Rattle.scale.specs.Scale.{whole, above_ceiling, scale_cost, held_down, sentinel, ceiling}
use Rattle.mask.specs.Mask.{has}
use Rattle.components.specs.declared.Policy.{Policy}
use Rattle.components.specs.declared.Car.{Car}
use Rattle.components.specs.declared.Point.{Point}
use Rattle.components.specs.declared.Strategy.{Strategy}
use Rattle.components.specs.declared.Strategy.TheVariants as strategy
use Rattle.components.specs.declared.Traffic.{Traffic}
use Rattle.components.specs.declared.Traffic.TheVariants as traffic
use Rattle.components.specs.declared.Phase.{Phase}
use Rattle.components.specs.declared.Phase.TheVariants as phase
use Rattle.components.specs.declared.Direction.TheVariants as direction
use Rattle.components.specs.declared.Mode.{Mode}
use Rattle.components.specs.declared.Mode.TheVariants as mode
use Rattle.components.specs.Points.{point_of, distance}
use Rattle.components.specs.Sheet.{Sheet}
use Rattle.manifest.specs.World.{stop_position, goal, in_group}
use Rattle.manifest.specs.Manifest.{someone_waits, riderless_call, ridden_to, has_demand, demand_stop}
use Rattle.sweep.specs.Sweeps.{sweep_rank}
use Rattle.dispatch.specs.Useful.{rider_can_board, can_exit_here, servable, on_aboard_path, pair_is_useful}
use Rattle.dispatch.specs.Waits.{fairness_bonus, with_bonus, sum_at, wait_ticks_sum, wait_ticks_squared_sum}
use Rattle.etd.specs.Etd.{intervenes, door_cost, extra_delay, is_ahead, direction_bonus, weighted, travel_time, intervening_stops, rider_delay, compute_cost}
use Rattle.etd.specs.Etd.{etd_rank}
use Rattle.dispatch.specs.FiniteRank.{finite_rank}
use Rattle.rsr.specs.Rsr.{with_penalty, with_coincident_call, with_load, rsr_cost_of, rsr_rank}
use Rattle.assignment_problem.specs.Choice.{cell_at}
use Rattle.assignment_problem.specs.Recursion.{scan, best, chosen, least_total, lowest}
use Rattle.assignment.specs.Pending.{pending_stops}
use Rattle.assignment.specs.Cells.{rank_cell, matrix, goes}

-- ---- the sheets of P8 to P10

-- the six weights by their slots, at a tick rate of 1
unfoldable pub policy : Strategy → Traffic → ℕ → ℕ → ℕ → ℕ → Policy
policy st tr w0 w1 w2 w5 =
    record {
      strategy = st;
      rate = natural 1;
      traffic = tr;
      w0 = natural w0;
      w1 = natural w1;
      w2 = natural w2;
      w3 = zero;
      w4 = zero;
      w5 = natural w5;
    }

-- car 7 at 0 with speed 2, so that a stop at 10 is 5 away in time; it has a call for the first stop, or none
unfoldable pub car : Phase → ℕ → Car
car ph calls =
    record {
      id = 7;
      line = 1;
      phase = ph;
      target = 0;
      listed = true;
      up = true;
      down = true;
      direction = direction.Up;
      mode = mode.Strict;
      position = point_of zero zero;
      speed = natural 2;
      capacity = natural 100;
      load = zero;
      bypassup = None;
      bypassdown = None;
      transition = 0;
      dwell = 0;
      restricted = 0;
      calls = calls;
    }

-- stop 1 at 10 and as far to the side as is said, where a hall call has no rider, and stop 2 at q; a line that serves both, and the car
unfoldable pub sheet_aside : Float → Policy → Float → Car → Sheet
sheet_aside side p q c =
    record {
      policy = p;
      stops = 2;
      stop = λ j. record { id = j + 1; position = get_or (point_of (natural 10) side ∷ point_of q zero ∷ []) j (point_of zero zero) };
      lines = 1;
      line = λ l. record { id = 1; serves = 0xc000_0000_0000_0000 };
      cars = 1;
      car = λ i. c;
      aboards = 0;
      aboard = λ a. record { car = 0; destination = 0 };
      waits = 0;
      waiting = λ w. record { stop = 0; line = 0; destination = 0; weight = zero; wait = 0 };
      demands = 1;
      demand = λ d. record { stop = 1; riding = 0; call = true };
      closures = 0;
      closed = λ x. 0;
    }

-- the same, with no stop to the side
unfoldable pub sheet : Policy → Float → Car → Sheet
sheet p q c = sheet_aside zero p q c

-- one name that opens every definition on the way
unfoldable pub everything : ℕ
unfolding of_bits add sub mul div neg lt le eq round of_int fold any every count nth lookup apart distance whole above_ceiling scale_cost held_down has
    stop_position goal in_group
    someone_waits riderless_call ridden_to has_demand demand_stop sweep_rank rider_can_board can_exit_here servable on_aboard_path pair_is_useful fairness_bonus
    with_bonus sum_at wait_ticks_sum wait_ticks_squared_sum intervenes door_cost extra_delay is_ahead direction_bonus weighted finite_rank travel_time
    intervening_stops rider_delay compute_cost etd_rank with_penalty with_coincident_call with_load rsr_cost_of rsr_rank scan best chosen least_total lowest
    policy car sheet_aside sheet
everything = 0

-- the cell of a cost, and whether it was held down
abbrev pub scaled : Float → ℕ × Bool
scaled x = (scale_cost x, held_down x)

-- a car at 0 that sweeps up, and a stop at 1e-9
abbrev pub up_at_zero : Mode → Option Float
up_at_zero m = sweep_rank (record { direction = direction.Up; mode = m }) (point_of zero zero) (point_of epsilon zero)

-- a strict sweep up from 0
abbrev pub up_from_zero : Point → Option Float
up_from_zero p = sweep_rank (record { direction = direction.Up; mode = mode.Strict }) (point_of zero zero) p

-- the cells of two cars over two columns
abbrev pub cells : ℕ → ℕ → ℕ → ℕ → ℕ → ℕ → ℕ
cells a b c d = cell_at (a ∷ b ∷ c ∷ d ∷ []) 2

-- "Column below m and cell below the sentinel: go to that stop.", of cells
abbrev pub goes_by : (ℕ → ℕ → ℕ) → ℕ → ℕ → ℕ → Bool
goes_by c m i j = ltb j m && ltb (c i j) sentinel

-- a car of the pass goes by the pass's matrix
pub goes_by_lem : (s : Sheet) (limit i j : ℕ) → goes s limit i j ≡ goes_by (matrix s limit) (pending_stops s) i j
unfolding goes
goes_by_lem s limit i j = refl

-- how many cars go with these columns, one a car
abbrev pub cars_going : (ℕ → ℕ → ℕ) → ℕ → List ℕ → ℕ
cars_going c m columns = count (λ i. goes_by c m i (get_or columns i 0)) (length columns)

-- ---- the table

pub record Table : Type 0 where
  -- "P1 cells (1, 2), (1, 9): columns 1, 0, total 3."
  pub P1 : (chosen (cells 1 2 1 9) 2 2 ≡ 1 ∷ 0 ∷ []) × (least_total (cells 1 2 1 9) 2 2 ≡ 3)
  -- "P2 all four 5: 0, 1."
  pub P2 : chosen (cells 5 5 5 5) 2 2 ≡ 0 ∷ 1 ∷ []
  -- "P3 (281,474,976,710,655, 1), (sentinel, 281,474,976,710,655): 1, 0, total 281,474,976,710,657; one car goes although two could."
  pub P3 : (chosen (cells ceiling 1 sentinel ceiling) 2 2 ≡ 1 ∷ 0 ∷ []) × (least_total (cells ceiling 1 sentinel ceiling) 2 2 ≡ 281_474_976_710_657)
      × (cars_going (cells ceiling 1 sentinel ceiling) 2 (chosen (cells ceiling 1 sentinel ceiling) 2 2) ≡ 1)
      × (cars_going (cells ceiling 1 sentinel ceiling) 2 (0 ∷ 1 ∷ []) ≡ 2)
  -- request F-9, "A client found cells (1, 281,474,976,710,655) and (2, sentinel): total 281,474,976,710,657 either way, and the rule of lowest
  -- columns sends one car where two could go.": both go
  pub F9 : (chosen (cells 1 ceiling 2 sentinel) 2 2 ≡ 1 ∷ 0 ∷ []) × (least_total (cells 1 ceiling 2 sentinel) 2 2 ≡ 281_474_976_710_657)
      × (cars_going (cells 1 ceiling 2 sentinel) 2 (chosen (cells 1 ceiling 2 sentinel) 2 2) ≡ 2)
      × (lowest (cells 1 ceiling 2 sentinel) 2 2 ≡ 0 ∷ 1 ∷ [])
      × (cars_going (cells 1 ceiling 2 sentinel) 2 (lowest (cells 1 ceiling 2 sentinel) 2 2) ≡ 1)
  -- "P4 cost 0.0078125 is 7,813."
  pub P4 : scaled (of_bits binary64 0x3f80_0000_0000_0000) ≡ (7_813, false)
  -- "P5 0.00390625 is 3,906."
  pub P5 : scaled (of_bits binary64 0x3f70_0000_0000_0000) ≡ (3_906, false)
  -- "P6 281,474,976 is 281,474,976,000,000; 281,474,977 meets the ceiling."
  pub P6 : (scaled (natural 281_474_976) ≡ (281_474_976_000_000, false)) × (scaled (natural 281_474_977) ≡ (281_474_976_710_655, true))
  -- request F-5, "A value that rounds exactly to the ceiling isn't held": 281,474,976.710655, the last cost that does, and the first beyond
  pub F5 : (scaled (of_bits binary64 0x41b0_c6f7_a0b5_ed7c) ≡ (ceiling, false)) × (scaled (of_bits binary64 0x41b0_c6f7_a0b5_ed84) ≡ (ceiling, false))
      × (scaled (of_bits binary64 0x41b0_c6f7_a0b5_ed85) ≡ (ceiling, true))
  -- "P7 strict up at 0, stop at 1e-9: no rank; lenient: cell 0."
  pub P7 : (up_at_zero mode.Strict ≡ None) × (rank_cell (up_at_zero mode.Lenient) ≡ 0)
  -- "P8 ETD, wait weight 1, others 0, idle phase, distance 10, speed 2: 3,500,000; moving to a stop beyond: 2,500,000."
  pub P8 : (rank_cell (etd_rank (sheet (policy strategy.Etd traffic.Idle 1 0 0 0) (natural 20) (car phase.Idle 0)) 0 0) ≡ 3_500_000)
      × (rank_cell (etd_rank (sheet (policy strategy.Etd traffic.Idle 1 0 0 0) (natural 20) (car (phase.MovingToStop 2) 0)) 0 0) ≡ 2_500_000)
  -- "P9 RSR, eta 1, travel 5, call bonus 8, other weights 0: 0."
  pub P9 : rank_cell (rsr_rank (sheet (policy strategy.Rsr traffic.Idle 1 0 8 0) (natural 20) (car phase.Idle 0x8000_0000_0000_0000)) 0 0) ≡ 0
  -- "P10 RSR, eta 1, travel 5, moving away from the stop, wrong direction 15, up peak, multiplier 2, other weights 0: 35,000,000."
  pub P10 : rank_cell (rsr_rank (sheet (policy strategy.Rsr traffic.UpPeak 1 15 0 2) (neg (natural 10)) (car (phase.MovingToStop 2) 0)) 0 0) ≡
      35_000_000
  -- request F-12, "the sum of the two absolute differences": P8's costs of a stop 10 along and 4 to the side, idle and moving past it; RSR's eta
  pub F12 : (rank_cell (etd_rank (sheet_aside (natural 4) (policy strategy.Etd traffic.Idle 1 0 0 0) (natural 20) (car phase.Idle 0)) 0 0) ≡ 4_900_000)
      × (rank_cell (etd_rank (sheet_aside (natural 4) (policy strategy.Etd traffic.Idle 1 0 0 0) (natural 20) (car (phase.MovingToStop 2) 0)) 0 0)
      ≡ 3_500_000)
      × (rank_cell (rsr_rank (sheet_aside (natural 4) (policy strategy.Rsr traffic.Idle 1 0 0 0) (natural 20) (car phase.Idle 0)) 0 0) ≡ 7_000_000)
  -- and SCAN's cost; "Directions .. use the first coordinate": a stop to the side alone is not ahead
  pub F12-scan : (rank_cell (up_from_zero (point_of (natural 10) (natural 4))) ≡ 14_000_000) × (up_from_zero (point_of zero (natural 4)) ≡ None)

pub table : Table
unfolding everything
table =
    record {
      P1 = (refl, refl);
      P2 = refl;
      P3 = (refl, refl, refl, refl);
      F9 = (refl, refl, refl, refl, refl);
      P4 = refl;
      P5 = refl;
      P6 = (refl, refl);
      F5 = (refl, refl, refl);
      P7 = (refl, refl);
      P8 = (refl, refl);
      P9 = refl;
      P10 = refl;
      F12 = (refl, refl, refl);
      F12-scan = (refl, refl);
    }
