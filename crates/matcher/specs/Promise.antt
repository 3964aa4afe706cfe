-- What the matcher answers and what it writes, for every input. Assumes nothing.
use Rattle.std.specs.Prelude.{◌≡◌, Bool, false, not, ◌||◌, cond, List, ◌++◌, ℕ, ◌*◌, ◌≤◌, eqb, ltb, length, get_or, drop, Option, Some, None}
use Rattle.std.specs.Option.{unwrap_or}
use Rattle.std.proofs.Common.{eq-eqb, le-ltb}
use Rattle.laws.specs.Folds.{any}
use Rattle.assignment_problem.specs.Choice.{cell_at, sentinel}
use Rattle.assignment_problem.specs.Recursion.{chosen, least_total}

-- cell k is above the sentinel
abbrev pub too_large : List ℕ → ℕ → Bool
too_large cells k = ltb sentinel (get_or cells k 0)

-- "Given more than 32 cars or 64 columns, fewer columns than cars, a wrong number of cells, a cell below 0 or above the sentinel, or fewer places
-- for its columns than cars, it answers "none" and writes nothing." (A cell is a u64, so none is below 0.)
unfoldable pub refused : ℕ → ℕ → List ℕ → ℕ → Bool
refused cars columns cells places =
    ltb 32 cars || (ltb 64 columns ||
    (ltb columns cars || (not (eqb (length cells) (cars * columns)) || (ltb places cars || any (too_large cells) (length cells)))))

-- the answer: the least total, or none
unfoldable pub matching : ℕ → ℕ → List ℕ → ℕ → Option ℕ
matching cars columns cells places = cond (refused cars columns cells places) None (Some (least_total (cell_at cells columns) cars columns))

-- what the places hold: one column a car, then what they held; all that they held where the answer is none
unfoldable pub written : ℕ → ℕ → List ℕ → List ℕ → List ℕ
written cars columns cells places =
    cond (refused cars columns cells (length places)) places (chosen (cell_at cells columns) cars columns ++ drop cars places)

-- the answer's number, 1 for a choice and 0 for none, and its total, with what stands where there is none
abbrev pub found_of : Option ℕ → ℕ
found_of (Some t) = 1
found_of None = 0

abbrev pub least_or : Option ℕ → ℕ → ℕ
least_or = unwrap_or

-- where each thing fits, nothing is refused
pub all_fit : (cars columns : ℕ) (cells : List ℕ) (places : ℕ) → cars ≤ 32 → columns ≤ 64 → cars ≤ columns
    → length cells ≡ cars * columns
    → cars ≤ places → any (too_large cells) (length cells) ≡ false → refused cars columns cells places ≡ false
unfolding refused
all_fit cars columns cells places a b c d e f =
    rw (le-ltb 32 cars a, le-ltb 64 columns b, le-ltb columns cars c, eq-eqb (length cells) (cars * columns) d, le-ltb places cars e, f)
