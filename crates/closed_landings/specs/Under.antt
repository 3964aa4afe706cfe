-- A pass with another rule for which stops are pending: the definitions of assignment: Pending, Candidates, Cells, outcome: Outcome and bench: Done
-- over a rule. Over the rule of now they are those definitions (`by_rule`). Assumes nothing.
use Rattle.bench.specs.Answers.{passed}
use Rattle.std.specs.Prelude.{None, Option}
use Rattle.std.specs.Float.{Float}
use Rattle.std.specs.Prelude.{ℕ, ◌*◌, min, max, ◌≡◌, refl, Bool, not, ◌&&◌, cond, ◌++◌, ltb, drop}
use Rattle.laws.specs.Folds.{count, nth}
use Rattle.laws.specs.Sums.{sum}
use Rattle.laws.specs.Tables.{tab, tabs}
use Rattle.scale.specs.Scale.{sentinel}
use Rattle.components.specs.Sheet.{Sheet}
use Rattle.manifest.specs.World.{stop_id}
use Rattle.sweep.specs.declared.Sweep.{Sweep}
use Rattle.sweep.specs.Sweeps.{sweep_of, sweep_code}
use Rattle.scan.specs.Scan.{prepared_sweep, scan_rank}
use Rattle.etd.specs.Etd.{etd_rank}
use Rattle.rsr.specs.Rsr.{rsr_rank}
use Rattle.assignment_problem.specs.Recursion.{column_of, least_total}
use Rattle.assignment.specs.Pending.{idle, idle_cars, row_car, pending, pending_stops, column_stop, columns}
use Rattle.assignment.specs.Candidates.{keeps, precedes, line_serves, barred, away, viable_of, viable_stops, nearer_of, kept_of}
use Rattle.assignment.specs.Cells.{by_strategy, rank_cell, rank_held, sweep_after, rank, cell, matrix, column, answered_total, goes, decision}
use Rattle.assignment.specs.Cells.{held_cell, held_at, held_in_row, held_cells, ranked_pairs}
use Rattle.outcome.specs.Outcome.{decisions_of, cells_of, sweeps_of}
use Rattle.bench.specs.Done.{Lent, Done, done, written}

module _ (s : Sheet) (rule : ℕ → Bool) where
  abbrev pub stops_under : ℕ
  stops_under = count rule s.stops

  abbrev pub column_stop_under : ℕ → ℕ
  column_stop_under c = nth rule s.stops c

  abbrev pub columns_under : ℕ
  columns_under = max (idle_cars s) stops_under

  abbrev pub viable_under : ℕ → ℕ → Bool
  viable_under i j = rule j && (not (barred s i j) && line_serves s i j)

  abbrev pub nearer_under : ℕ → ℕ → ℕ
  nearer_under i j = count (λ k. viable_under i k && precedes (away s i k) (stop_id s k) (away s i j) (stop_id s j)) s.stops

  abbrev pub kept_under : ℕ → ℕ → ℕ → Bool
  kept_under i limit j = viable_under i j && keeps limit (nearer_under i j)

  abbrev pub sweep_under : ℕ → Sweep
  sweep_under i =
      by_strategy s.policy.strategy (sweep_of (s.car i)) (sweep_of (s.car i))
      (cond (idle s i && ltb 0 stops_under) (prepared_sweep s i) (sweep_of (s.car i)))
      (sweep_of (s.car i))

  abbrev pub rank_under : ℕ → ℕ → Option Float
  rank_under i j = by_strategy s.policy.strategy (etd_rank s i j) (rsr_rank s i j) (scan_rank s (sweep_under i) i j) None

  module _ (limit : ℕ) where
    abbrev pub cell_under : ℕ → ℕ → ℕ
    cell_under i j = cond (kept_under i limit j) (rank_cell (rank_under i j)) sentinel

    abbrev pub matrix_under : ℕ → ℕ → ℕ
    matrix_under r c = cond (ltb c stops_under) (cell_under (row_car s r) (column_stop_under c)) sentinel

    abbrev pub goes_under : ℕ → ℕ → Bool
    goes_under r c = ltb c stops_under && ltb (matrix_under r c) sentinel

    abbrev pub column_under : ℕ → ℕ
    column_under r = column_of matrix_under (idle_cars s) columns_under r

    abbrev pub decision_under : ℕ → ℕ
    decision_under r = cond (goes_under r (column_under r)) (stop_id s (column_stop_under (column_under r))) 0

    abbrev pub total_under : ℕ
    total_under = least_total matrix_under (idle_cars s) columns_under

    abbrev pub held_at_under : ℕ → ℕ → Bool
    held_at_under r c =
        ltb c stops_under
        && (kept_under (row_car s r) limit (column_stop_under c) && rank_held (rank_under (row_car s r) (column_stop_under c)))

    abbrev pub held_under : ℕ
    held_under = sum (idle_cars s) (λ r. count (held_at_under r) columns_under)

    abbrev pub ranked_under : ℕ
    ranked_under = sum (idle_cars s) (λ r. min limit (count (viable_under (row_car s r)) s.stops))

    abbrev pub written_under : Lent → Done
    written_under x =
        done (passed (idle_cars s) stops_under total_under ranked_under held_under)
        (tab decision_under (idle_cars s) ++ drop (idle_cars s) x.decisions)
        (tabs matrix_under columns_under (idle_cars s) ++ drop (idle_cars s * columns_under) x.cells)
        (tab (λ i. sweep_code (sweep_under i)) s.cars ++ drop s.cars x.sweeps)

pub by_rule : (s : Sheet) (limit : ℕ) (x : Lent) → written s limit x ≡ written_under s (pending s) limit x
unfolding pending_stops column_stop columns viable_of nearer_of kept_of sweep_after rank cell matrix column answered_total goes decision decisions_of cells_of
    sweeps_of held_cell held_at held_in_row held_cells viable_stops ranked_pairs
by_rule s limit x = refl
