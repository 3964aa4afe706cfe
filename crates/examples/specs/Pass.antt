-- What a small sheet's module states of its bytes, and one name that opens every definition on the way. Assumes nothing.
use Rattle.std.specs.Prelude.{ℕ, ◌≡◌, List}
use Rattle.laws.specs.Tables.{tab, tabs}
use Rattle.dispatch.specs.Useful.{on_path}
use Rattle.dispatch.specs.Waits.{fairness_bonus, with_bonus, sum_at, wait_ticks_sum, wait_ticks_squared_sum}
use Rattle.etd.specs.Etd.{intervenes, door_cost, extra_delay, is_ahead, direction_bonus, weighted, travel_time, intervening_stops, rider_delay, compute_cost}
use Rattle.etd.specs.Etd.{etd_rank}
use Rattle.dispatch.specs.FiniteRank.{finite_rank}
use Rattle.rsr.specs.Rsr.{with_penalty, with_coincident_call, with_load, rsr_cost_of, rsr_rank}
use Rattle.components.specs.Sheet.{Sheet}
use Rattle.sweep.specs.Sweeps.{sweep_code}
use Rattle.assignment.specs.Pending.{idle_cars, pending_stops, columns}
use Rattle.assignment.specs.Cells.{sweep_after, matrix, decision, answered_total}
use Rattle.assignment.specs.Example.{everything}

-- the pass of sheet s under a limit: n and m, the cells row by row, the total, the decisions, and the sweeps of all cars
pub record Passes (s : Sheet) (limit n m : ℕ) (cells : List ℕ) (total : ℕ) (decisions sweeps : List ℕ) : Type 0 where
  pub cars : idle_cars s ≡ n
  pub stops : pending_stops s ≡ m
  pub filled : tabs (matrix s limit) (columns s) n ≡ cells
  pub totalled : answered_total s limit ≡ total
  pub decided : tab (decision s limit) n ≡ decisions
  pub swept : tab (λ i. sweep_code (sweep_after s i)) s.cars ≡ sweeps

unfoldable pub pass : ℕ
unfolding everything tabs on_path fairness_bonus with_bonus sum_at wait_ticks_sum wait_ticks_squared_sum intervenes door_cost extra_delay is_ahead direction_bonus
    weighted finite_rank travel_time intervening_stops rider_delay compute_cost etd_rank with_penalty with_coincident_call with_load rsr_cost_of rsr_rank
pass = 0
