-- The choice by plain recursion: the first car is given each free column in turn and the remaining cars are passed to the recursion; the least
-- total wins, among these the fewest cars left standing, and ties go to the lowest column. Assumes nothing.
use Rattle.std.specs.Prelude.{Bool, false, cond, ◌||◌, ◌&&◌, List, [], ◌∷◌, ℕ, zero, suc, ◌+◌, eqb, ltb, get_or}
use Rattle.assignment_problem.specs.Choice.{standing}

-- what the recursion finds: nothing, or a total, how many cars are left standing with it, and its columns
pub data Candidate : Type 0 where
  none : Candidate
  some : ℕ → ℕ → List ℕ → Candidate

-- a total t with x cars standing comes before a total s with y
abbrev pub before : ℕ → ℕ → ℕ → ℕ → Bool
before t x s y = ltb t s || (eqb t s && ltb x y)

-- the second if it comes before the first, otherwise the first
abbrev pub better : Candidate → Candidate → Candidate
better none b = b
better (some t x l) none = some t x l
better (some t x l) (some s y k) = cond (before s y t x) (some s y k) (some t x l)

-- a car at column j, where its cell is z and w is 1 if it is left standing there, in front of the remaining cars
abbrev pub front : ℕ → ℕ → ℕ → Candidate → Candidate
front z w j none = none
front z w j (some t x l) = some (z + t) (w + x) (j ∷ l)

-- whether column j is taken
abbrev pub is_in : ℕ → List ℕ → Bool
is_in j [] = false
is_in j (x ∷ xs) = eqb j x || is_in j xs

-- the best of f 0 .. f (m - 1), the first of equals
unfoldable pub scan : (ℕ → Candidate) → ℕ → Candidate
scan f zero = none
scan f (suc j) = better (scan f j) (f j)

-- the best for the k cars from car i on, with the cells c, where s counts who is left standing, over m columns of which some are taken
unfoldable pub best : (ℕ → ℕ → ℕ) → (ℕ → ℕ → ℕ) → ℕ → ℕ → ℕ → List ℕ → Candidate
best c s m zero i taken = some 0 0 []
best c s m (suc k) i taken = scan (λ j. cond (is_in j taken) none (front (c i j) (s i j) j (best c s m k (suc i) (j ∷ taken)))) m

abbrev pub columns_of : Candidate → List ℕ
columns_of none = []
columns_of (some t x l) = l

abbrev pub candidate_total : Candidate → ℕ
candidate_total none = 0
candidate_total (some t x l) = t

-- the columns of n cars over m columns with the cells c, one a car in order, and their total
unfoldable pub chosen : (ℕ → ℕ → ℕ) → ℕ → ℕ → List ℕ
chosen c n m = columns_of (best c (standing c) m n 0 [])

unfoldable pub least_total : (ℕ → ℕ → ℕ) → ℕ → ℕ → ℕ
least_total c n m = candidate_total (best c (standing c) m n 0 [])

-- the column of car i
abbrev pub column_of : (ℕ → ℕ → ℕ) → ℕ → ℕ → ℕ → ℕ
column_of c n m i = get_or (chosen c n m) i 0

-- the columns where nobody is counted as standing: what the method finds in the cells that it is handed
unfoldable pub lowest : (ℕ → ℕ → ℕ) → ℕ → ℕ → List ℕ
lowest c n m = columns_of (best c (λ i j. 0) m n 0 [])
