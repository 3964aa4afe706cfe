-- The total and the decisions of a sheet's matrix are the sheet's. Assumes nothing.
use Rattle.std.specs.Prelude.{ℕ, ◌+◌, ◌*◌, ◌≤◌, ◌<◌, ◌≡◌, length, drop}
use Rattle.std.proofs.Common.{sym, ◌∙◌, subst, arith}
use Rattle.std.proofs.Math.Path.{ap}
use mathlib.Core.List.{List, [], ◌++◌, append-nil}
use Rattle.std.proofs.Math.Logic.{⊎_elim}
use Rattle.std.proofs.Math.ListN.{get_or}
use borrow.Author.Tests.{le-ltb}
use Rattle.laws.specs.Bools.{less?}
use Rattle.laws.specs.Folds.{nth_is}
use Rattle.laws.specs.Tables.{tab, tab_cong, tabs, length-tabs, get_or-tabs, tabs_every}
use Rattle.scale.specs.Scale.{sentinel}
use Rattle.mask.specs.declared.Ones.{Ones}
use Rattle.components.specs.Sheet.{Sheet}
use Rattle.manifest.specs.World.{stop_id}
use Rattle.assignment_problem.specs.Choice.{cell_at}
use Rattle.assignment_problem.specs.Recursion.{least_total, column_of}
use Rattle.assignment_problem.proofs.Chosen.{chosen_same, chosen_choice}
use Rattle.assignment.specs.Pending.{pending, idle_cars, pending_stops, column_stop, columns}
use Rattle.assignment.specs.Cells.{matrix, column, answered_total, goes, decision}
use Rattle.assignment.proofs.CellLaws.{SmallSheet, matrix_le, rows_fit, idle_le, pending_le, columns_le}
use Rattle.decisions.specs.Decisions.{Filled, told, decision_by}

module _ (s : Sheet) (limit : ℕ) (cells : List ℕ) (e : cells ≡ tabs (matrix s limit) (columns s) (idle_cars s)) where
  same_cell : (r c : ℕ) → r < idle_cars s → c < columns s → cell_at cells (columns s) r c ≡ matrix s limit r c
  same_cell r c lr lc =
      ap (λ (l : List ℕ). get_or l (r * columns s + c) 0) (e ∙ sym (append-nil (tabs (matrix s limit) (columns s) (idle_cars s))))
      ∙ get_or-tabs (matrix s limit) (columns s) (idle_cars s) r c [] 0 lr lc

  -- the least total is the answered one
  pub total_same : least_total (cell_at cells (columns s)) (idle_cars s) (columns s) ≡ answered_total s limit
  unfolding answered_total
  total_same = (chosen_same (cell_at cells (columns s)) (matrix s limit) (idle_cars s) (columns s) (rows_fit s) same_cell).1

  same_column : (r : ℕ) → column_of (cell_at cells (columns s)) (idle_cars s) (columns s) r ≡ column s limit r
  unfolding column
  same_column r =
      ap (λ (l : List ℕ). get_or l r 0) (chosen_same (cell_at cells (columns s)) (matrix s limit) (idle_cars s) (columns s) (rows_fit s) same_cell).0

  column_within : (r : ℕ) → r < idle_cars s → column s limit r < columns s
  unfolding column
  column_within r l = (chosen_choice (matrix s limit) (idle_cars s) (columns s) (rows_fit s)).within r l

  module _ (stops : Ones) (ids : List ℕ) (counted : stops.count ≡ pending_stops s)
      (listed : (k : ℕ) → k < stops.count → get_or stops.at k 0 ≡ column_stop s k) where
    stop_below : (k : ℕ) → k < stops.count → column_stop s k < s.stops
    unfolding column_stop pending_stops
    stop_below k l = (nth_is (pending s) s.stops k (omega arith)).below

    -- such cells are what the matcher takes
    pub filled : (room : ℕ) → SmallSheet s → length ids ≡ 64 → 32 ≤ room
        → Filled cells (idle_cars s) (columns s) stops ids room
    filled room small names l =
        let cars = small.cars in
        let most = small.stops in
        record {
          few = omega (arith, idle_le s);
          narrow = columns_le s small;
          wide = rows_fit s;
          whole = ap length e ∙ length-tabs (matrix s limit) (columns s) (idle_cars s);
          small = λ k lk.
              subst (λ (x : List ℕ). get_or x k 0 ≤ sentinel) (sym e)
              (tabs_every (λ x. x ≤ sentinel) (matrix s limit) (columns s) (idle_cars s) 0 (λ r lr c lc. matrix_le s limit r c) k
              (omega (arith, ap length e, length-tabs (matrix s limit) (columns s) (idle_cars s))));
          named = names;
          most = omega (arith, pending_le s);
          below = λ k lk. omega (arith, listed k lk, stop_below k lk);
          room = l;
        }

    module _ (named : (j : ℕ) → j < s.stops → get_or ids j 0 ≡ stop_id s j) where
      pub decision_same : (r : ℕ) → r < idle_cars s → decision_by cells (idle_cars s) (columns s) stops ids r ≡ decision s limit r
      unfolding decision_by told decision goes
      decision_same r l =
          let c = column s limit r in
          ⊎_elim
          (λ (b : c < stops.count).
          rw (same_column r, same_cell r c l (column_within r l), counted, listed c b, named (column_stop s c) (stop_below c b)))
          (λ (b : stops.count ≤ c). rw (same_column r, le-ltb c stops.count b, le-ltb c (pending_stops s) (omega arith)))
          (less? c stops.count)

      -- what is written is what the pass decides
      pub decisions_same : (entry : List ℕ) → tab (decision_by cells (idle_cars s) (columns s) stops ids) (idle_cars s) ++ drop (idle_cars s) entry
          ≡ tab (decision s limit) (idle_cars s) ++ drop (idle_cars s) entry
      decisions_same entry =
          ap (λ (l : List ℕ). l ++ drop (idle_cars s) entry)
          (tab_cong (decision_by cells (idle_cars s) (columns s) stops ids) (decision s limit) (idle_cars s) decision_same)
