-- Alike sheets with the same bars have the same choice, and leave the same in every buffer. Assumes nothing.
use Rattle.std.specs.Prelude.{ℕ, ◌*◌, ◌≤◌, ◌<◌, ◌≡◌, ◌&&◌, cond, ltb}
use Rattle.std.proofs.Math.Path.{ap, ap₂}
use Rattle.std.proofs.Common.{◌∙◌, ⊎_elim, le-ltb}
use mathlib.Core.List.{List, ◌++◌}
use Rattle.std.proofs.Math.ListN.{get_or, drop}
use Rattle.laws.specs.Bools.{less?}
use Rattle.laws.specs.Tables.{tab, tabs, tab_cong, tabs_cong}
use Rattle.scale.specs.Scale.{sentinel}
use Rattle.components.specs.declared.Stop.{Stop}
use Rattle.components.specs.declared.Line.{Line}
use Rattle.components.specs.declared.Car.{Car}
use Rattle.components.specs.declared.Aboard.{Aboard}
use Rattle.components.specs.declared.Waiting.{Waiting}
use Rattle.components.specs.declared.Demand.{Demand}
use Rattle.components.specs.Sheet.{Sheet}
use Rattle.manifest.specs.World.{stop_id}
use Rattle.sweep.specs.Sweeps.{sweep_code}
use Rattle.assignment_problem.specs.Recursion.{chosen, least_total}
use Rattle.assignment_problem.proofs.Chosen.{chosen_same}
use Rattle.assignment.specs.Pending.{idle_cars, pending_stops, column_stop, columns}
use Rattle.assignment.specs.Cells.{sweep_after, matrix, column, answered_total, goes, decision}
use Rattle.assignment.proofs.CellLaws.{rows_fit}
use Rattle.outcome.specs.Outcome.{decisions_of, cells_of, sweeps_of}
use Rattle.alike.specs.Alike.{Alike, other}
use Rattle.alike.specs.Stops.{same_cars, same_stops, same_column, same_columns}
use Rattle.alike.proofs.Costs.{same_sweep}
use Rattle.alike.proofs.Rows.{same_matrix, column_below}

module _ (s : Sheet) (stop : ℕ → Stop) (line : ℕ → Line) (car : ℕ → Car) (aboard : ℕ → Aboard) (waiting : ℕ → Waiting)
    (demand : ℕ → Demand) (closed : ℕ → ℕ) (h : Alike s stop line car aboard waiting demand closed)
    (bars : (i : ℕ) → i < s.cars → (s.car i).restricted ≡ (car i).restricted) (limit : ℕ) where
  abbrev t : Sheet
  t = other s stop line car aboard waiting demand closed

  abbrev n : idle_cars s ≡ idle_cars t
  n = same_cars s stop line car aboard waiting demand closed h

  abbrev w : columns s ≡ columns t
  w = same_columns s stop line car aboard waiting demand closed h

  abbrev m : pending_stops s ≡ pending_stops t
  m = same_stops s stop line car aboard waiting demand closed h

  cells : (r c : ℕ) → r < idle_cars s → matrix s limit r c ≡ matrix t limit r c
  cells r c l = same_matrix s stop line car aboard waiting demand closed h bars limit r c l

  chosen_alike : (chosen (matrix s limit) (idle_cars s) (columns s) ≡ chosen (matrix t limit) (idle_cars s) (columns s))
      × (least_total (matrix s limit) (idle_cars s) (columns s) ≡ least_total (matrix t limit) (idle_cars s) (columns s))
  chosen_alike = chosen_same (matrix s limit) (matrix t limit) (idle_cars s) (columns s) (rows_fit s) (λ r c l k. cells r c l)

  pub same_total : answered_total s limit ≡ answered_total t limit
  unfolding answered_total
  same_total = chosen_alike.1 ∙ ap₂ (least_total (matrix t limit)) n w

  same_choice : (r : ℕ) → column s limit r ≡ column t limit r
  unfolding column
  same_choice r =
      ap (λ (l : List ℕ). get_or l r 0) chosen_alike.0
      ∙ ap₂ (λ (a b : ℕ). get_or (chosen (matrix t limit) a b) r 0) n w

  -- what row r does at column c
  same_at : (r c : ℕ) → r < idle_cars s
      → cond (ltb c (pending_stops s) && ltb (matrix s limit r c) sentinel) (stop_id s (column_stop s c)) 0
      ≡ cond (ltb c (pending_stops t) && ltb (matrix t limit r c) sentinel) (stop_id t (column_stop t c)) 0
  same_at r c l =
      rw (← m, ← cells r c l, ← same_column s stop line car aboard waiting demand closed h c)
      (⊎_elim
      (λ (b : c < pending_stops s).
      ap (λ (x : ℕ). cond (ltb c (pending_stops s) && ltb (matrix s limit r c) sentinel) x 0)
      (h.a_stop (column_stop s c) (column_below s stop line car aboard waiting demand closed h c b)).id)
      (λ (b : pending_stops s ≤ c). rw (le-ltb c (pending_stops s) b))
      (less? c (pending_stops s)))

  same_decision : (r : ℕ) → r < idle_cars s → decision s limit r ≡ decision t limit r
  unfolding decision goes
  same_decision r l = rw (← same_choice r) (same_at r (column s limit r) l)

  pub same_decisions : (entry : List ℕ) → decisions_of s limit entry ≡ decisions_of t limit entry
  unfolding decisions_of
  same_decisions entry =
      ap (λ (x : List ℕ). x ++ drop (idle_cars s) entry) (tab_cong (decision s limit) (decision t limit) (idle_cars s) same_decision)
      ∙ ap (λ (k : ℕ). tab (decision t limit) k ++ drop k entry) n

  pub same_cells : (entry : List ℕ) → cells_of s limit entry ≡ cells_of t limit entry
  unfolding cells_of
  same_cells entry =
      ap (λ (x : List ℕ). x ++ drop (idle_cars s * columns s) entry)
      (tabs_cong (matrix s limit) (matrix t limit) (columns s) (idle_cars s) (λ r l c k. cells r c l))
      ∙ ap₂ (λ (a b : ℕ). tabs (matrix t limit) b a ++ drop (a * b) entry) n w

  pub same_sweeps : (entry : List ℕ) → sweeps_of s entry ≡ sweeps_of t entry
  unfolding sweeps_of
  same_sweeps entry =
      ap (λ (x : List ℕ). x ++ drop s.cars entry)
      (tab_cong (λ i. sweep_code (sweep_after s i)) (λ i. sweep_code (sweep_after t i)) s.cars
      (λ i l. ap sweep_code (same_sweep s stop line car aboard waiting demand closed h i l)))
