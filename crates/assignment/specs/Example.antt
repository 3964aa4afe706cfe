-- Document 01's example sheet, from its bytes to its lines, by computation. Assumes nothing.
use Rattle.std.specs.Prelude.{Ok}
use Rattle.std.specs.Prelude.{◌≡◌, refl, List, [], ◌∷◌, ℕ}
use Rattle.std.specs.Float.Ieee.{of_bits, add, sub, mul, div, neg, lt, le, eq, round, of_int}
use Rattle.laws.specs.Folds.{fold, any, every, count, nth, lookup}
use Rattle.laws.specs.Tables.{tab}
use Rattle.fp.specs.Num.{apart}
use Rattle.scale.specs.Scale.{whole, scale_cost}
use Rattle.mask.specs.Mask.{has}
use Rattle.components.specs.Points.{distance}
use Rattle.components.specs.Sheet.{Sheet}
use Rattle.layout.specs.declared.Counts.{Counts}
use Rattle.layout.specs.Records.{sheet_of, limit_of}
use Rattle.layout.specs.Verdict.{verdict}
use Rattle.layout.specs.Open.{reading}
use Rattle.manifest.specs.World.{stop_position, goal, in_group}
use Rattle.manifest.specs.Manifest.{someone_waits, riderless_call, ridden_to, has_demand, demand_stop}
use Rattle.sweep.specs.Sweeps.{prepared, sweep_rank, sweep_code}
use Rattle.scan.specs.Scan.{rank_of, strict_demand_ahead, prepared_sweep, scan_rank}
use Rattle.dispatch.specs.Useful.{rider_can_board, can_exit_here, servable, on_aboard_path, pair_is_useful}
use Rattle.assignment_problem.specs.Recursion.{scan, best, chosen, least_total}
use Rattle.assignment.specs.Pending.{serves, line_capacity, capacity_at, weight_at, line_served, covered_by_cars, closed_at, covered, idle, idle_bound, pending, idle_cars}
use Rattle.assignment.specs.Pending.{row_car, pending_stops, column_stop, columns}
use Rattle.assignment.specs.Candidates.{keeps, precedes, kept_of, line_serves_of, nearer_of, viable_of}
use Rattle.assignment.specs.Cells.{sweep_after, rank, cell, matrix, column, answered_total, goes, decision}

-- Stops 1, 2, 3 at 0, 10, 20; a line serving all; idle-listed cars 7 at 0 and 8 at 20; rider-less calls at 2 and 3; SCAN; no limit
unfoldable pub bytes : List ℕ
bytes =
    1 ∷ 0 ∷ 9 ∷ 4 ∷ 7 ∷ 82 ∷ 255 ∷ 255 ∷ 64 ∷ 78 ∷ 0 ∷ 0 ∷ 0 ∷ 0 ∷ 0 ∷ 0 ∷ 0 ∷ 0 ∷ 0 ∷ 0 ∷ 0 ∷ 0 ∷ 0 ∷ 0 ∷ 0 ∷ 0 ∷ 0 ∷ 0 ∷ 0 ∷ 0 ∷
    0 ∷ 0 ∷ 0 ∷ 0 ∷ 0 ∷ 0 ∷ 0 ∷ 0 ∷ 0 ∷ 0 ∷ 0 ∷ 0 ∷ 0 ∷ 0 ∷ 0 ∷ 0 ∷ 0 ∷ 0 ∷ 0 ∷ 0 ∷ 0 ∷ 0 ∷ 0 ∷ 0 ∷ 0 ∷ 0 ∷ 0 ∷ 0 ∷ 0 ∷ 0 ∷ 0 ∷ 0 ∷
    0 ∷ 0 ∷ 2 ∷ 0 ∷ 96 ∷ 0 ∷ 0 ∷ 0 ∷ 1 ∷ 0 ∷ 0 ∷ 0 ∷ 0 ∷ 0 ∷ 0 ∷ 0 ∷ 0 ∷ 8 ∷ 1 ∷ 128 ∷ 0 ∷ 0 ∷ 0 ∷ 9 ∷ 0 ∷ 144 ∷ 0 ∷ 0 ∷ 0 ∷ 0 ∷ 0 ∷
    0 ∷ 32 ∷ 6 ∷ 0 ∷ 0 ∷ 0 ∷ 0 ∷ 52 ∷ 3 ∷ 64 ∷ 0 ∷ 0 ∷ 0 ∷ 0 ∷ 0 ∷ 0 ∷ 192 ∷ 24 ∷ 0 ∷ 0 ∷ 0 ∷ 0 ∷ 120 ∷ 0 ∷ 0 ∷ 0 ∷ 0 ∷ 0 ∷ 0 ∷ 0 ∷
    4 ∷ 2 ∷ 203 ∷ 0 ∷ 0 ∷ 0 ∷ 7 ∷ 0 ∷ 0 ∷ 0 ∷ 1 ∷ 0 ∷ 0 ∷ 0 ∷ 0 ∷ 0 ∷ 0 ∷ 0 ∷ 0 ∷ 14 ∷ 0 ∷ 0 ∷ 0 ∷ 0 ∷ 0 ∷ 0 ∷ 0 ∷ 0 ∷ 32 ∷ 0 ∷ 0 ∷
    0 ∷ 0 ∷ 0 ∷ 0 ∷ 0 ∷ 32 ∷ 44 ∷ 128 ∷ 0 ∷ 0 ∷ 0 ∷ 0 ∷ 0 ∷ 0 ∷ 0 ∷ 0 ∷ 0 ∷ 0 ∷ 0 ∷ 0 ∷ 0 ∷ 0 ∷ 0 ∷ 0 ∷ 0 ∷ 0 ∷ 0 ∷ 0 ∷ 0 ∷ 0 ∷ 0 ∷
    0 ∷ 0 ∷ 0 ∷ 0 ∷ 0 ∷ 0 ∷ 0 ∷ 0 ∷ 0 ∷ 0 ∷ 0 ∷ 0 ∷ 0 ∷ 0 ∷ 0 ∷ 0 ∷ 0 ∷ 0 ∷ 0 ∷ 0 ∷ 0 ∷ 0 ∷ 0 ∷ 0 ∷ 0 ∷ 0 ∷ 0 ∷ 0 ∷ 0 ∷ 0 ∷ 2 ∷ 1 ∷
    101 ∷ 128 ∷ 0 ∷ 0 ∷ 4 ∷ 0 ∷ 0 ∷ 0 ∷ 0 ∷ 128 ∷ 0 ∷ 0 ∷ 0 ∷ 0 ∷ 0 ∷ 0 ∷ 0 ∷ 7 ∷ 16 ∷ 13 ∷ 0 ∷ 0 ∷ 0 ∷ 0 ∷ 0 ∷ 0 ∷ 16 ∷ 0 ∷ 0 ∷ 0 ∷
    0 ∷ 0 ∷ 0 ∷ 0 ∷ 16 ∷ 22 ∷ 64 ∷ 0 ∷ 0 ∷ 0 ∷ 0 ∷ 0 ∷ 0 ∷ 0 ∷ 0 ∷ 0 ∷ 0 ∷ 0 ∷ 0 ∷ 0 ∷ 0 ∷ 0 ∷ 0 ∷ 0 ∷ 0 ∷ 0 ∷ 0 ∷ 0 ∷ 0 ∷ 0 ∷ 0 ∷
    0 ∷ 0 ∷ 0 ∷ 0 ∷ 0 ∷ 0 ∷ 0 ∷ 0 ∷ 0 ∷ 0 ∷ 0 ∷ 0 ∷ 0 ∷ 0 ∷ 0 ∷ 0 ∷ 0 ∷ 0 ∷ 0 ∷ 0 ∷ 0 ∷ 0 ∷ 0 ∷ 0 ∷ 0 ∷ 0 ∷ 0 ∷ 0 ∷ 0 ∷ 1 ∷ 192 ∷
    12 ∷ 64 ∷ 0 ∷ 0 ∷ 0 ∷ 128 ∷ 0 ∷ 35 ∷ 128 ∷ 24 ∷ 128 ∷ 0 ∷ 0 ∷ 1 ∷ 128 ∷ 0 ∷ 64 ∷ []

unfoldable pub counts : Counts
counts = record { across = 0; policies = 1; stops = 3; lines = 1; cars = 2; aboards = 0; waits = 0; demands = 2; closures = 0 }

unfoldable pub sheet : Sheet
sheet = sheet_of bytes counts

-- one name that opens every definition on the way
unfoldable pub everything : ℕ
unfolding of_bits add sub mul div neg lt le eq round of_int fold any every count nth lookup tab apart distance whole scale_cost has sheet_of limit_of
    stop_position goal in_group someone_waits riderless_call ridden_to has_demand demand_stop prepared sweep_rank sweep_code rank_of strict_demand_ahead
    prepared_sweep rider_can_board can_exit_here servable on_aboard_path pair_is_useful scan best chosen least_total serves line_capacity capacity_at weight_at
    line_served covered_by_cars closed_at covered idle idle_bound pending idle_cars row_car pending_stops column_stop columns keeps precedes line_serves_of viable_of nearer_of kept_of
    sweep_after scan_rank rank cell matrix column answered_total goes decision bytes counts sheet reading
everything = 0

-- it is accepted
pub accepted : verdict bytes ≡ Ok counts
unfolding everything
accepted = refl

-- "cars 2 stops 2 total 10000000"
pub total : (idle_cars sheet ≡ 2) × (pending_stops sheet ≡ 2) × (answered_total sheet (limit_of bytes) ≡ 10000000)
unfolding everything
total = (refl, refl, refl)

-- "car 7 stop 2", "car 8 stop 3"
pub decisions : tab (decision sheet (limit_of bytes)) 2 ≡ 2 ∷ 3 ∷ []
unfolding everything
decisions = refl

-- "sweep 7 up strict", "sweep 8 down lenient"
pub sweeps : tab (λ i. sweep_code (sweep_after sheet i)) 2 ≡ 0 ∷ 3 ∷ []
unfolding everything
sweeps = refl
