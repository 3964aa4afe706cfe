-- The stages of grading put together. Assumes nothing.
use Rattle.std.specs.Prelude.{Result}
use Rattle.grade.specs.declared.Graded.{Graded}
use Rattle.layout.specs.declared.Refusal.{Refusal}
use Rattle.layout.specs.declared.Counts.{Counts}
use Rattle.layout.specs.Refused.{refused}
use Rattle.std.specs.Prelude.{ℕ, ◌+◌, ◌*◌, ◌≤◌, ◌<◌, ◌≡◌, Bool, true, false, length, drop}
use Rattle.std.proofs.Math.Path.{refl, ap}
use Rattle.std.proofs.Common.{sym, ◌∙◌, arith, ltb-false}
use mathlib.Core.List.{List}
use Rattle.std.proofs.Math.ListN.{get_or}
use Rattle.laws.specs.Bools.{neither_left, neither_right}
use Rattle.laws.specs.Tables.{get_or-tabs}
use Rattle.components.specs.Sheet.{Sheet}
use Rattle.layout.specs.Verdict.{verdict}
use Rattle.assignment_problem.specs.Choice.{cell_at}
use Rattle.assignment.specs.Pending.{idle_cars, columns}
use Rattle.assignment.specs.Cells.{matrix}
use Rattle.assignment.proofs.CellLaws.{SmallSheet, matrix_le, idle_le, columns_le, cells_fit}
use Rattle.outcome.specs.Outcome.{cells_of}
use Rattle.shown.specs.Shown.{shown, shown_same}
use Rattle.shown.specs.Fits.{price_at, column_of, Priced, Inside}
use Rattle.shown.specs.Refusals.{refusal19, mispriced, refusal20, inside_of, as_many_prices, prices_in_range}
use Rattle.grade.specs.Graded.{Sent, Done, done, short_matrix, outcome_of, shown_least, graded, judged, done_of, grade_of}

-- ---- refusal 1 in front

-- the grade, by its outcome
pub is_grade : (bytes : List ℕ) (x : Sent) (entry : List ℕ) {y : Done} {v : Result Counts Refusal} → outcome_of bytes (length entry) ≡ v → y ≡ done_of v bytes x entry
    → y ≡ grade_of bytes x entry
is_grade bytes x entry {y} {v} e is = is ∙ ap (λ (o : Result Counts Refusal). done_of o bytes x entry) (sym e)

pub short : (bytes : List ℕ) (cells : ℕ) → short_matrix cells ≡ true → outcome_of bytes cells ≡ refused 1 0
unfolding outcome_of
short bytes cells e = rw e

pub long : (bytes : List ℕ) (cells : ℕ) {v : Result Counts Refusal} → short_matrix cells ≡ false → v ≡ verdict bytes → outcome_of bytes cells ≡ v
unfolding outcome_of
long bytes cells {v} e f = rw e (sym f)

pub room : (cells : ℕ) → short_matrix cells ≡ false → 2048 ≤ cells
unfolding short_matrix
room cells e = ltb-false cells 2048 e

-- ---- what is sent, of an accepted sheet with n idle cars and w columns

module _ (s : Sheet) (limit : ℕ) (x : Sent) (entry : List ℕ) {n w : ℕ} (en : n ≡ idle_cars s) (ew : w ≡ columns s) where
  -- 19
  pub columns_refused : refusal19 n w x.columns ≡ true → done (refused 19 0) entry ≡ judged s limit x entry
  unfolding judged
  columns_refused h = rw (rw (en, ew) at h) refl

  module _ (columns-taken : refusal19 n w x.columns ≡ false) where
    -- 20
    pub prices_refused : refusal20 n w x.car_prices x.column_prices ≡ true → done (refused 20 0) entry ≡ judged s limit x entry
    unfolding judged
    prices_refused h = rw (rw (en, ew) at columns-taken, rw (en, ew) at h) refl

    module _ (prices-taken : refusal20 n w x.car_prices x.column_prices ≡ false) (exit : List ℕ) (is : exit ≡ cells_of s limit entry) where
      cell_is : (i j : ℕ) → i < n → j < w → cell_at exit w i j ≡ matrix s limit i j
      unfolding cells_of
      cell_is i j li lj =
          ap (λ (k : ℕ). get_or exit (i * k + j) 0) ew ∙ ap (λ (l : List ℕ). get_or l (i * columns s + j) 0) is
          ∙ get_or-tabs (matrix s limit) (columns s) (idle_cars s) i j (drop (idle_cars s * columns s) entry) 0 (omega arith) (omega arith)

      cars_well : mispriced n x.car_prices ≡ false
      unfolding refusal20
      cars_well = neither_left (mispriced n x.car_prices) (mispriced w x.column_prices) prices-taken

      columns_well : mispriced w x.column_prices ≡ false
      unfolding refusal20
      columns_well = neither_right (mispriced n x.car_prices) (mispriced w x.column_prices) prices-taken

      pub priced : SmallSheet s → 2048 ≤ length exit → Priced n w exit x.car_prices x.column_prices
      priced small long_enough =
          let cars = small.cars in
          let fits : n * w ≤ 2048 = rw (en, ew) (cells_fit s small) in
          record {
            few_cars = omega (arith, idle_le s);
            few_columns = omega (arith, columns_le s small);
            cells_there = omega arith;
            cells_low = λ i j li lj. omega (arith, cell_is i j li lj, matrix_le s limit i j);
            cars_there = omega (arith, as_many_prices n x.car_prices cars_well);
            cars_in_range = prices_in_range n x.car_prices cars_well;
            columns_there = omega (arith, as_many_prices w x.column_prices columns_well);
            columns_in_range = prices_in_range w x.column_prices columns_well;
          }

      pub inside : Inside n w x.columns
      inside = inside_of n w x.columns columns-taken

      shows_is : {b : Bool} → b ≡ shown n w (cell_at exit w) (column_of x.columns) (price_at x.car_prices) (price_at x.column_prices)
          → b ≡ shown_least s limit x
      unfolding shown_least
      shows_is e =
          e ∙ shown_same n w (cell_at exit w) (matrix s limit) (column_of x.columns) (price_at x.car_prices) (price_at x.car_prices)
          (price_at x.column_prices) (price_at x.column_prices) cell_is inside.inside (λ i l. refl) (λ j l. refl) ∙ rw (en, ew)

      -- least or not shown
      pub is_judged : {r : Result Graded Refusal} {b : Bool} → r ≡ graded b
          → b ≡ shown n w (cell_at exit w) (column_of x.columns) (price_at x.car_prices) (price_at x.column_prices)
          → done r exit ≡ judged s limit x entry
      unfolding judged
      is_judged {r} {b} e t =
          let same : r ≡ graded (shown_least s limit x) = e ∙ ap graded (shows_is t) in
          rw (rw (en, ew) at columns-taken, rw (en, ew) at prices-taken, same, is) refl
