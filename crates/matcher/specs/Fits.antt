-- What each test of `assign` says of the promise, and that the method takes what passes them all, with its marks. Assumes nothing.
use Rattle.std.specs.Prelude.{◌≡◌, true, false, ℕ, ◌+◌, ◌*◌, ◌/◌, ◌≤◌, ◌<◌, take, drop, Some, None}
use Rattle.std.proofs.Math.Path.{sym, ap, fun_ext}
use Rattle.std.proofs.Common.{◌∙◌, mul-le-mul_right, arith, take_at, ne_eqb, lt-ltb, ltb-false}
use Rattle.std.proofs.Math.Bool.{or-true}
use mathlib.Core.List.{List, ◌++◌}
use Rattle.std.proofs.Math.Logic.{⊎_elim}
use Rattle.std.proofs.Math.ListN.{length, get_or, get_or-eq_default}
use Rattle.laws.specs.Bools.{less?}
use Rattle.laws.specs.Folds.{any, any_none}
use Rattle.laws.specs.Tables.{tab, length-tab, get_or-tab₀}
use Rattle.assignment_problem.specs.Choice.{cell_at, sentinel}
use Rattle.assignment_problem.specs.Recursion.{chosen, least_total, lowest}
use Rattle.assignment_problem.specs.Marked.{mark, marked}
use Rattle.assignment_problem.proofs.MarkedLaws.{mark_le, marked_lowest, marked_least}
use Rattle.alternating_tree.specs.State.{Matrix}
use Rattle.marks.specs.Marks.{mark_at}
use Rattle.matcher.specs.Promise.{too_large, refused, matching, written}

-- a matrix that passes the tests
pub record Fitting (cars columns : ℕ) (cells : List ℕ) : Type 0 where
  pub rows32 : cars ≤ 32
  pub cols64 : columns ≤ 64
  pub wide : cars ≤ columns
  pub whole : length cells ≡ cars * columns
  pub small : (k : ℕ) → get_or cells k 0 ≤ sentinel

pub fitting : {cars columns : ℕ} {cells : List ℕ} → cars ≤ 32 → columns ≤ 64 → cars ≤ columns → length cells ≡ cars * columns
    → any (too_large cells) (length cells) ≡ false → Fitting cars columns cells
fitting {cars} {columns} {cells} a b c d e =
    record {
      rows32 = a;
      cols64 = b;
      wide = c;
      whole = d;
      small = λ k. ⊎_elim
          (λ l. ltb-false sentinel (get_or cells k 0) (any_none (too_large cells) (length cells) e k l))
          (λ l. let z = get_or-eq_default cells 0 l in omega arith)
          (less? k (length cells));
    }

-- the marked cells are the first of a buffer that they were written to
pub first_marks : (cells buffer buffer' : List ℕ) → buffer' ≡ tab (mark_at cells) (length cells) ++ drop (length cells) buffer
    → take (length cells) buffer' ≡ tab (mark_at cells) (length cells)
first_marks cells buffer buffer' e =
    rw e (take_at (tab (mark_at cells) (length cells)) (drop (length cells) buffer) (length cells) (length-tab (mark_at cells) (length cells)))

-- the method takes its marked cells, and finds the choice in them
module _ {cars columns : ℕ} {cells : List ℕ} (f : Fitting cars columns cells) (ms : List ℕ) (is : ms ≡ tab (mark_at cells) (length cells)) where
  marks_at : (k : ℕ) → get_or ms k 0 ≡ mark (get_or cells k 0)
  unfolding mark
  marks_at k =
      let size : length ms ≡ length cells = ap length is ∙ length-tab (mark_at cells) (length cells) in
      ⊎_elim
      (λ l. ap (λ (x : List ℕ). get_or x k 0) is ∙ get_or-tab₀ (mark_at cells) (length cells) k 0 l)
      (λ l. get_or-eq_default ms 0 (omega arith) ∙ sym (ap mark (get_or-eq_default cells 0 l)))
      (less? k (length cells))

  pub marks_matrix : Matrix ms cars columns
  marks_matrix = record {
    rows32 = f.rows32;
    cols64 = f.cols64;
    wide = f.wide;
    whole = ap length is ∙ length-tab (mark_at cells) (length cells) ∙ f.whole;
    small = λ k. omega (arith, marks_at k, mark_le (get_or cells k 0), f.small k);
  }

  marks_cells : cell_at ms columns ≡ marked (cell_at cells columns)
  marks_cells = fun_ext (λ i. fun_ext (λ j. marks_at (i * columns + j)))

  pub marks_total : (t : ℕ) → t ≡ least_total (cell_at ms columns) cars columns → t / 64 ≡ least_total (cell_at cells columns) cars columns
  marks_total t e =
      ap (λ (x : ℕ). x / 64) (e ∙ ap (λ (c : ℕ → ℕ → ℕ). least_total c cars columns) marks_cells)
      ∙ marked_least (cell_at cells columns) cars columns (omega (arith, f.rows32)) f.wide

  pub marks_columns : lowest (cell_at ms columns) cars columns ≡ chosen (cell_at cells columns) cars columns
  marks_columns =
      ap (λ (c : ℕ → ℕ → ℕ). lowest c cars columns) marks_cells
      ∙ marked_lowest (cell_at cells columns) cars columns (omega (arith, f.rows32)) f.wide

-- the product of so few cars and columns is small
pub small_product : (cars columns : ℕ) → cars ≤ 32 → columns ≤ 64 → cars * columns ≤ 2048
small_product cars columns a b = omega (arith, mul-le-mul_right columns a)

-- each thing that may be wrong is enough
module _ (cars columns : ℕ) (cells : List ℕ) (places : ℕ) where
  pub many_cars : 32 < cars → refused cars columns cells places ≡ true
  unfolding refused
  many_cars h = rw (lt-ltb 32 cars h)

  pub many_columns : 64 < columns → refused cars columns cells places ≡ true
  unfolding refused
  many_columns h = rw (lt-ltb 64 columns h) (simp or-true)

  pub few_columns : columns < cars → refused cars columns cells places ≡ true
  unfolding refused
  few_columns h = rw (lt-ltb columns cars h) (simp or-true)

  pub wrong_count : (length cells ≡ cars * columns → ⊥) → refused cars columns cells places ≡ true
  unfolding refused
  wrong_count h = rw (ne_eqb (length cells) (cars * columns) h) (simp or-true)

  pub few_places : places < cars → refused cars columns cells places ≡ true
  unfolding refused
  few_places h = rw (lt-ltb places cars h) (simp or-true)

  pub large_cell : any (too_large cells) (length cells) ≡ true → refused cars columns cells places ≡ true
  unfolding refused
  large_cell h = rw h (simp or-true)

-- what a refusal and a choice are, by the promise
pub refuse : (cars columns : ℕ) (cells places : List ℕ) → refused cars columns cells (length places) ≡ true
    → (None ≡ matching cars columns cells (length places)) × (places ≡ written cars columns cells places)
unfolding matching written
refuse cars columns cells places h = (rw h, rw h)

pub accept : (cars columns : ℕ) (cells places places' : List ℕ) (t : ℕ) → refused cars columns cells (length places) ≡ false
    → t ≡ least_total (cell_at cells columns) cars columns → places' ≡ chosen (cell_at cells columns) cars columns ++ drop cars places
    → (Some t ≡ matching cars columns cells (length places)) × (places' ≡ written cars columns cells places)
unfolding matching written
accept cars columns cells places places' t h e d = (rw h (ap Some e), rw h d)
