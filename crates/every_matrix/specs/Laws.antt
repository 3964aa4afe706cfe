-- The numbers of a line have one digit each, and the plain matcher takes every matrix. Assumes nothing.
use Rattle.std.specs.Prelude.{ℕ, zero, suc, ◌+◌, ◌*◌, ◌≤◌, ◌<◌, List, get_or, Ok, Err}
use Rattle.std.proofs.Math.Path.{◌≡◌, refl, sym, ap}
use Rattle.std.proofs.Common.{◌∙◌}
use native.Mathlib.Omega.{arith}
use Rattle.std.proofs.Math.Dec.{ltb}
use Rattle.std.proofs.Math.ListN.{length}
use borrow.Author.Tests.{le-ltb}
use Rattle.laws.specs.Folds.{none_any}
use Rattle.laws.specs.Sums.{sum}
use Rattle.assignment_problem.specs.Choice.{cell_at, total, sentinel}
use Rattle.assignment_problem.specs.Recursion.{chosen, least_total, column_of}
use Rattle.assignment_problem.proofs.Chosen.{chosen_choice, chosen_total}
use Rattle.plain_matcher.specs.declared.Chosen.{Chosen}
use Rattle.plain_matcher.specs.declared.Refusal.{Refusal}
use Rattle.plain_matcher.specs.Promise.{four_of, chosen_of, plain_of}
use Rattle.plain_matcher.proofs.Fits.{all_fits}
use Rattle.every_matrix.specs.EveryMatrix.{matrix_of}

-- each cell is below 3
pub cell_low : (k j : ℕ) → get_or (matrix_of k) j 0 < 3
unfolding matrix_of
cell_low k zero = omega arith
cell_low k (suc zero) = omega arith
cell_low k (suc (suc zero)) = omega arith
cell_low k (suc (suc (suc zero))) = omega arith
cell_low k (suc (suc (suc (suc zero)))) = omega arith
cell_low k (suc (suc (suc (suc (suc zero))))) = omega arith
cell_low k (suc (suc (suc (suc (suc (suc j)))))) = omega arith

-- the numbers of a line
pub record Digits (cells : List ℕ) (first second total : ℕ) : Type 0 where
  pub six : length cells ≡ 6
  pub digit : (j : ℕ) → get_or cells j 0 < 10
  pub column : first < 10
  pub other : second < 10
  pub sum : total < 10

module _ (k : ℕ) where
  abbrev cell : ℕ → ℕ → ℕ
  cell = cell_at (matrix_of k) 3

  column_low : (i : ℕ) → i < 2 → column_of cell 2 3 i < 3
  column_low i l = (chosen_choice cell 2 3 (omega arith)).within i l

  total_low : least_total cell 2 3 ≤ 4
  unfolding total sum
  total_low =
      let a = cell_low k (0 * 3 + column_of cell 2 3 0) in
      let b = cell_low k (1 * 3 + column_of cell 2 3 1) in
      omega (arith, chosen_total cell 2 3 (omega arith), a, b)

  pub line_digits : Digits (matrix_of k) (column_of cell 2 3 0) (column_of cell 2 3 1) (least_total cell 2 3)
  unfolding matrix_of
  line_digits = record {
    six = refl;
    digit = λ j. omega (arith, cell_low k j);
    column = omega (arith, column_low 0 (omega arith));
    other = omega (arith, column_low 1 (omega arith));
    sum = omega (arith, total_low);
  }

  -- the plain matcher's answer
  pub matrix_plain : chosen_of 2 3 (matrix_of k) ≡ plain_of 2 3 (matrix_of k)
  unfolding matrix_of
  matrix_plain = all_fits 2 3 (matrix_of k) (omega arith) (omega arith) (omega arith) refl
      (none_any (λ j. ltb sentinel (get_or (matrix_of k) j 0)) 6 (λ j l. le-ltb sentinel (get_or (matrix_of k) j 0) (omega (arith, cell_low k j))))

  -- what the plain matcher chooses of it
  pub line_chosen : {x : Chosen} → Ok x ≡ plain_of 2 3 (matrix_of k)
      → (x.columns.first ≡ column_of cell 2 3 0) × (x.columns.second ≡ column_of cell 2 3 1) × (x.total ≡ least_total cell 2 3)
  unfolding chosen_of
  line_chosen {x} e = let f : Ok x ≡ chosen_of 2 3 (matrix_of k) = e ∙ sym matrix_plain in
      let g : x ≡ record { columns = four_of (chosen cell 2 3); total = least_total cell 2 3 } = cc in
      (ap (λ (y : Chosen). y.columns.first) g, ap (λ (y : Chosen). y.columns.second) g, ap (λ (y : Chosen). y.total) g)

  pub never_refused : {r : Refusal} → Err r ≡ plain_of 2 3 (matrix_of k) → ⊥
  unfolding chosen_of
  never_refused e = let f = e ∙ sym matrix_plain in let z : ◌≡◌ {A = ℕ} 0 1 = cc in omega arith
