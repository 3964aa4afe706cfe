-- What prices show of a choice. Request F-8: "Sites send the columns that their controller chose, one an idle car, and prices from a solver of their
-- own." Assumes nothing.
use Rattle.std.specs.Prelude.{ℕ, ◌<◌, ◌≡◌, Bool, ◌&&◌, ◌||◌, eqb, ℤ}
use Rattle.std.proofs.Common.{ap₂}
use Rattle.laws.specs.Folds.{any, every, every_cong}
use Rattle.prices.specs.Price.{within, equals, zero_or_less, is_zero}

-- of n cars and w columns with their cells: the column of each car, the prices u of cars and v of columns

-- "The price of a car plus the price of a column never exceeds their cell"
unfoldable pub never_above : ℕ → ℕ → (ℕ → ℕ → ℕ) → (ℕ → ℤ) → (ℕ → ℤ) → Bool
never_above n w cell u v = every (λ i. every (λ j. within (u i) (v j) (cell i j)) w) n

-- "and equals it where chosen"
unfoldable pub equal_where_chosen : ℕ → (ℕ → ℕ → ℕ) → (ℕ → ℕ) → (ℕ → ℤ) → (ℕ → ℤ) → Bool
equal_where_chosen n cell column u v = every (λ i. equals (u i) (v (column i)) (cell i (column i))) n

-- somebody took column j
unfoldable pub taken : ℕ → (ℕ → ℕ) → ℕ → Bool
taken n column j = any (λ i. eqb (column i) j) n

-- "column prices are zero or less, and zero on columns nobody took"
unfoldable pub columns_priced : ℕ → ℕ → (ℕ → ℕ) → (ℕ → ℤ) → Bool
columns_priced n w column v = every (λ j. zero_or_less (v j) && (taken n column j || is_zero (v j))) w

-- "The grader answers "least" when all this holds and "not shown" otherwise."
unfoldable pub shown : ℕ → ℕ → (ℕ → ℕ → ℕ) → (ℕ → ℕ) → (ℕ → ℤ) → (ℕ → ℤ) → Bool
shown n w cell column u v = never_above n w cell u v && (equal_where_chosen n cell column u v && columns_priced n w column v)

-- ---- only the cells of the matrix and the prices of its cars and columns count

pub shown_same : (n w : ℕ) (c c' : ℕ → ℕ → ℕ) (column : ℕ → ℕ) (u u' v v' : ℕ → ℤ) → ((i j : ℕ) → i < n → j < w → c i j ≡ c' i j)
    → ((i : ℕ) → i < n → column i < w) → ((i : ℕ) → i < n → u i ≡ u' i) → ((j : ℕ) → j < w → v j ≡ v' j)
    → shown n w c column u v ≡ shown n w c' column u' v'
unfolding shown never_above equal_where_chosen columns_priced
shown_same n w c c' column u u' v v' cells inside cars columns =
    let under : never_above n w c u v ≡ never_above n w c' u' v' =
    every_cong (λ i. every (λ j. within (u i) (v j) (c i j)) w) (λ i. every (λ j. within (u' i) (v' j) (c' i j)) w) n
    (λ i li.
    every_cong (λ j. within (u i) (v j) (c i j)) (λ j. within (u' i) (v' j) (c' i j)) w (λ j lj. rw (cells i j li lj, cars i li, columns j lj))) in
    let equal : equal_where_chosen n c column u v ≡ equal_where_chosen n c' column u' v' =
    every_cong (λ i. equals (u i) (v (column i)) (c i (column i))) (λ i. equals (u' i) (v' (column i)) (c' i (column i))) n
    (λ i li. rw (cells i (column i) li (inside i li), cars i li, columns (column i) (inside i li))) in
    let priced : columns_priced n w column v ≡ columns_priced n w column v' =
    every_cong (λ j. zero_or_less (v j) && (taken n column j || is_zero (v j))) (λ j. zero_or_less (v' j) && (taken n column j || is_zero (v' j))) w
    (λ j lj. rw (columns j lj)) in
    ap₂ (λ (a b : Bool). a && b) under (ap₂ (λ (a b : Bool). a && b) equal priced)
