-- Prices of rows (u) and discounts of columns (w), whole numbers of at least 0. Assumes nothing.
use Rattle.std.specs.Prelude.{◌≡◌, ℕ, ◌+◌, ◌≤◌, ◌<◌}

-- a row's price is nowhere above the cell and the column's discount
abbrev pub Feasible : (n m : ℕ) (c : ℕ → ℕ → ℕ) (u w : ℕ → ℕ) → Type 0
Feasible n m c u w = (i j : ℕ) → i < n → j < m → u i ≤ c i j + w j

-- it is equal where chosen, and a column that nobody has has no discount
pub record Tight (n m : ℕ) (c : ℕ → ℕ → ℕ) (p u w : ℕ → ℕ) : Type 0 where
  pub tight : (i : ℕ) → i < n → u i ≡ c i (p i) + w (p i)
  pub unused : (j : ℕ) → j < m → ((k : ℕ) → k < n → p k ≡ j → ⊥) → w j ≡ 0
