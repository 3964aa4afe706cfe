-- Held cells and ranked pairs of a sheet, by computation. Assumes nothing.
use Rattle.std.specs.Prelude.{None}
use Rattle.std.specs.Prelude.{◌≡◌, refl, true, not, cond, List, [], ◌∷◌, ℕ, ◌+◌, eqb}
use Rattle.std.specs.Float.Ieee.{of_bits, add, sub, mul, div, neg, lt, le, eq, round, of_int}
use Rattle.laws.specs.Folds.{fold, any, every, count, nth, lookup}
use Rattle.laws.specs.Sums.{sum}
use Rattle.laws.specs.Tables.{tab}
use Rattle.fp.specs.Num.{zero, natural, apart}
use Rattle.scale.specs.Scale.{whole, above_ceiling, scale_cost, held_down, sentinel, ceiling}
use Rattle.mask.specs.Mask.{has}
use Rattle.components.specs.declared.Strategy.TheVariants.{Etd}
use Rattle.components.specs.declared.Traffic.TheVariants as traffic
use Rattle.components.specs.declared.Phase.TheVariants as phase
use Rattle.components.specs.declared.Direction.TheVariants as direction
use Rattle.components.specs.declared.Mode.TheVariants as mode
use Rattle.components.specs.Points.{point_of, distance}
use Rattle.components.specs.Sheet.{Sheet}
use Rattle.manifest.specs.World.{stop_position, goal, in_group}
use Rattle.manifest.specs.Manifest.{someone_waits, riderless_call, ridden_to, has_demand, demand_stop}
use Rattle.dispatch.specs.Useful.{rider_can_board, can_exit_here, servable, on_aboard_path, pair_is_useful}
use Rattle.dispatch.specs.FiniteRank.{finite_rank}
use Rattle.dispatch.specs.Waits.{fairness_bonus, with_bonus, sum_at, wait_ticks_sum, wait_ticks_squared_sum}
use Rattle.etd.specs.Etd.{intervenes, door_cost, extra_delay, is_ahead, direction_bonus, weighted, travel_time, intervening_stops, rider_delay, compute_cost}
use Rattle.etd.specs.Etd.{etd_rank}
use Rattle.assignment_problem.specs.Recursion.{scan, best, chosen}
use Rattle.assignment.specs.Pending.{serves, line_capacity, capacity_at, weight_at, line_served, covered_by_cars, closed_at, covered, idle, idle_bound}
use Rattle.assignment.specs.Pending.{pending, idle_cars, row_car, pending_stops, column_stop, columns}
use Rattle.assignment.specs.Candidates.{no_limit, keeps, precedes, kept_of, line_serves_of, nearer_of, viable_of, viable_stops}
use Rattle.assignment.specs.Cells.{rank, cell, held_cell, matrix, column, held_at, held_in_row, held_cells, ranked_pairs}

-- stops 1 and 2 at 10 and 1, a line serving both, rider-less calls at both; three idle cars at 0 with speed 1, the last of them full and barred from
-- stop 1, and a car that is not idle; ETD, wait weight 100,000,000, other weights 0
unfoldable pub sheet : Sheet
sheet =
    record {
      policy = record {
        strategy = Etd;
        rate = natural 1;
        traffic = traffic.Idle;
        w0 = natural 100_000_000;
        w1 = zero;
        w2 = zero;
        w3 = zero;
        w4 = zero;
        w5 = zero;
      };
      stops = 2;
      stop = λ j. record { id = j + 1; position = point_of (cond (eqb j 0) (natural 10) (natural 1)) zero };
      lines = 1;
      line = λ l. record { id = 1; serves = 0xc000_0000_0000_0000 };
      cars = 4;
      car = λ i. record {
        id = i + 7;
        line = 1;
        phase = phase.Idle;
        target = 0;
        listed = not (eqb i 3);
        up = true;
        down = true;
        direction = direction.Up;
        mode = mode.Strict;
        position = point_of zero zero;
        speed = natural 1;
        capacity = natural 100;
        load = cond (eqb i 2) (natural 100) zero;
        bypassup = None;
        bypassdown = None;
        transition = 0;
        dwell = 0;
        restricted = cond (eqb i 2) 0x8000_0000_0000_0000 0;
        calls = 0;
      };
      aboards = 0;
      aboard = λ a. record { car = 0; destination = 0 };
      waits = 0;
      waiting = λ w. record { stop = 0; line = 0; destination = 0; weight = zero; wait = 0 };
      demands = 2;
      demand = λ d. record { stop = d + 1; riding = 0; call = true };
      closures = 0;
      closed = λ x. 0;
    }

-- one name that opens every definition on the way
unfoldable pub everything : ℕ
unfolding of_bits add sub mul div neg lt le eq round of_int fold any every count nth lookup sum tab apart distance whole above_ceiling scale_cost held_down has
    stop_position goal in_group someone_waits riderless_call ridden_to has_demand demand_stop rider_can_board can_exit_here servable on_aboard_path pair_is_useful
    fairness_bonus with_bonus sum_at wait_ticks_sum wait_ticks_squared_sum intervenes door_cost extra_delay is_ahead direction_bonus weighted finite_rank
    travel_time intervening_stops rider_delay compute_cost etd_rank serves line_capacity capacity_at weight_at line_served covered_by_cars closed_at covered idle
    idle_bound pending idle_cars row_car pending_stops column_stop columns keeps precedes line_serves_of viable_of nearer_of kept_of rank cell held_cell matrix
    held_at held_in_row held_cells viable_stops ranked_pairs scan best chosen column sheet
everything = 0

-- the first two cars' cells: held, below the ceiling, spare
pub reach : (tab (matrix sheet no_limit 0) 3 ≡ ceiling ∷ 99_999_999_700_000 ∷ sentinel ∷ [])
    × (tab (matrix sheet no_limit 1) 3 ≡ ceiling ∷ 99_999_999_700_000 ∷ sentinel ∷ [])
unfolding everything
reach = (refl, refl)

-- the third's: barred, without a rank, spare
pub barred : tab (matrix sheet no_limit 2) 3 ≡ sentinel ∷ sentinel ∷ sentinel ∷ []
unfolding everything
barred = refl

-- car 7 goes to stop 1, car 8 to stop 2
pub choice : tab (column sheet no_limit) 3 ≡ 0 ∷ 1 ∷ 2 ∷ []
unfolding everything
choice = refl

-- two of the nine cells are held, and one of them is chosen
pub two_held : (tab (held_in_row sheet no_limit) 3 ≡ 1 ∷ 1 ∷ 0 ∷ []) × (held_cells sheet no_limit ≡ 2)
unfolding everything
two_held = (refl, refl)

-- under a limit of 1 each car keeps stop 2 alone, which is nearer
pub none_kept : held_cells sheet 1 ≡ 0
unfolding everything
none_kept = refl

-- two cars have two viable stops and the third one, for which it has no rank; under a limit of 1 each has one pair ranked
pub all_ranked : (ranked_pairs sheet no_limit ≡ 5) × (ranked_pairs sheet 1 ≡ 3)
unfolding everything
all_ranked = (refl, refl)
