-- What a site sends, beside the matrix that it is held to: how much there is, and in which ranges. Assumes nothing.
use Rattle.std.specs.Prelude.{ℕ, ◌+◌, ◌*◌, ◌≤◌, ◌<◌, ◌≡◌, true, List, length, get_or, ℤ, pos}
use Rattle.std.proofs.Common.{mul-le-mul_right, arith}
use Rattle.laws.specs.Tables.{row_in}
use Rattle.prices.specs.Price.{in_range}
use Rattle.assignment_problem.specs.Choice.{cell_at}

-- the price at k
abbrev pub price_at : List ℤ → ℕ → ℤ
price_at l k = get_or l k (pos 0)

-- the column of car i
abbrev pub column_of : List ℕ → ℕ → ℕ
column_of l i = get_or l i 0

-- n × w cells of a matrix, n prices of cars and w of columns
pub record Priced (n w : ℕ) (cells : List ℕ) (u v : List ℤ) : Type 0 where
  pub few_cars : n ≤ 32
  pub few_columns : w ≤ 64
  pub cells_there : n * w ≤ length cells
  pub cells_low : (i j : ℕ) → i < n → j < w → cell_at cells w i j ≤ 281_474_976_710_656
  pub cars_there : n ≤ length u
  pub cars_in_range : (i : ℕ) → i < n → in_range (price_at u i) ≡ true
  pub columns_there : w ≤ length v
  pub columns_in_range : (j : ℕ) → j < w → in_range (price_at v j) ≡ true

-- a column of w for each of n cars
pub record Inside (n w : ℕ) (columns : List ℕ) : Type 0 where
  pub there : n ≤ length columns
  pub inside : (i : ℕ) → i < n → column_of columns i < w

-- ---- laws

module _ {n w : ℕ} {cells : List ℕ} {u v : List ℤ} (h : Priced n w cells u v) where
  pub few_cells : n * w ≤ 2048
  few_cells = omega (arith, mul-le-mul_right w h.few_cars, h.few_columns)

  -- the place of a cell, row by row
  pub place_in : (i j : ℕ) → i < n → j < w → i * w + j < n * w
  place_in i j li lj = omega (arith, row_in i n w li)
