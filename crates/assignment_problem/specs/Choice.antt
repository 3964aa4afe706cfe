-- Choices of one column a car. Rows are cars, columns are stops or spare; c i j is the cell of row i and column j. Assumes nothing.
use Rattle.std.specs.Prelude.{◌≡◌, List, ℕ, ◌+◌, ◌*◌, ◌≤◌, ◌<◌, eqb, get_or}
use Rattle.laws.specs.Bools.{bit}
use Rattle.laws.specs.Sums.{sum}

-- p gives each of n cars one of m columns, and no column to two cars
pub record IsChoice (n m : ℕ) (p : ℕ → ℕ) : Type 0 where
  pub within : (i : ℕ) → i < n → p i < m
  pub distinct : (a b : ℕ) → a < n → b < n → p a ≡ p b → a ≡ b

-- "A choice's total is the sum of its cells, one a row."
unfoldable pub total : ℕ → (ℕ → ℕ → ℕ) → (ℕ → ℕ) → ℕ
total n c p = sum n (λ i. c i (p i))

-- the cell of a column to which a car is not sent; a spare column has no other
abbrev pub sentinel : ℕ
sentinel = 281_474_976_710_656

-- 1 where car i at column j is left standing, since its cell there is the sentinel, and 0 where it is sent; the total of these over a choice is how
-- many cars it leaves standing
abbrev pub standing : (ℕ → ℕ → ℕ) → ℕ → ℕ → ℕ
standing c i j = bit (eqb (c i j) sentinel)

-- p comes before every other choice: by its total of c, then by how many cars it leaves standing, which s counts, then by its columns
pub record Foremost (n m : ℕ) (c s : ℕ → ℕ → ℕ) (p : ℕ → ℕ) : Type 0 where
  pub choice : IsChoice n m p
  pub least : (q : ℕ → ℕ) → IsChoice n m q → total n c p ≤ total n c q
  -- a choice of the same total leaves no fewer standing
  pub most : (q : ℕ → ℕ) → IsChoice n m q → total n c q ≡ total n c p → total n s p ≤ total n s q
  -- a choice of the same total that leaves as many standing and agrees before car i has no lower column for i
  pub lowest : (q : ℕ → ℕ) → IsChoice n m q → total n c q ≡ total n c p → total n s q ≡ total n s p
      → (i : ℕ) → i < n → ((r : ℕ) → r < i → q r ≡ p r) → p i ≤ q i

-- "The choice has the least total; among these, the lowest column for the first car, then the second, on.", and of these first, request F-9: "Among
-- least totals the choice that sends most cars now comes first, then lowest columns."
abbrev pub Chosen : ℕ → ℕ → (ℕ → ℕ → ℕ) → (ℕ → ℕ) → Type 0
Chosen n m c p = Foremost n m c (standing c) p

-- nobody is counted as standing: the least total, then lowest columns
abbrev pub Lowest : ℕ → ℕ → (ℕ → ℕ → ℕ) → (ℕ → ℕ) → Type 0
Lowest n m c p = Foremost n m c (λ i j. 0) p

-- the cell of row i and column j, of cells written row by row
abbrev pub cell_at : List ℕ → ℕ → ℕ → ℕ → ℕ
cell_at cells columns i j = get_or cells (i * columns + j) 0
