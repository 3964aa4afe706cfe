-- What the plain matcher answers, and what it leaves in lent places, for every input. Assumes nothing.
use Rattle.std.specs.Prelude.{◌≡◌, Bool, not, ◌||◌, cond, List, ◌++◌, ℕ, zero, suc, ◌*◌, ◌≤◌, eqb, ltb, length, get_or, drop, Result, Ok, Err}
use Rattle.laws.specs.Folds.{any}
use Rattle.laws.specs.Tables.{tab}
use Rattle.assignment_problem.specs.Choice.{cell_at, sentinel}
use Rattle.assignment_problem.specs.Recursion.{chosen, least_total}
use Rattle.matcher.specs.Promise.{too_large}
use Rattle.plain_matcher.specs.declared.Columns.{Columns}
use Rattle.plain_matcher.specs.declared.Chosen.{Chosen}
use Rattle.plain_matcher.specs.declared.Refusal.{Refusal}
use Rattle.plain_matcher.specs.declared.Refusal.TheVariants.{FewPlaces, NotSmall}

-- "for up to 4 cars and 5 columns"; "22, without columns or total, when the matrix is larger, has fewer columns than cars, or doesn't hold cars ×
-- columns cells from 0 to the sentinel" (A cell is a u64, so none is below 0.)
unfoldable pub refused22 : ℕ → ℕ → List ℕ → Bool
refused22 cars columns cells =
    ltb 4 cars || (ltb 5 columns || (ltb columns cars || (not (eqb (length cells) (cars * columns)) || any (too_large cells) (length cells))))

-- columns in the order of the cars, 0 where there is no such car
abbrev pub four_of : List ℕ → Columns
four_of l = record { first = get_or l 0 0; second = get_or l 1 0; third = get_or l 2 0; fourth = get_or l 3 0 }

-- it "chooses as the fast one does": the columns and the total of the choice that is asked for
unfoldable pub chosen_of : ℕ → ℕ → List ℕ → Result Chosen Refusal
chosen_of cars columns cells =
    Ok (record { columns = four_of (chosen (cell_at cells columns) cars columns); total = least_total (cell_at cells columns) cars columns })

unfoldable pub plain_of : ℕ → ℕ → List ℕ → Result Chosen Refusal
plain_of cars columns cells = cond (refused22 cars columns cells) (Err NotSmall) (chosen_of cars columns cells)

-- ---- for a host, who lends places

-- refusal 1, of fewer than 4 places; then 22
unfoldable pub lent_plain : ℕ → ℕ → List ℕ → ℕ → Result Chosen Refusal
lent_plain cars columns cells places = cond (ltb places 4) (Err FewPlaces) (plain_of cars columns cells)

-- the number of a refusal
abbrev pub refusal_number : Refusal → ℕ
refusal_number FewPlaces = 1
refusal_number NotSmall = 22

-- the number of an answer: where columns are chosen it is 0
abbrev pub plain_number : Result Chosen Refusal → ℕ
plain_number (Ok choice) = 0
plain_number (Err refusal) = refusal_number refusal

-- what stands in the lent total, which held this before
abbrev pub plain_total : Result Chosen Refusal → ℕ → ℕ
plain_total (Ok choice) before = choice.total
plain_total (Err refusal) before = before

-- the column of car k
abbrev pub column_at : Columns → ℕ → ℕ
column_at x zero = x.first
column_at x (suc zero) = x.second
column_at x (suc (suc zero)) = x.third
column_at x (suc (suc (suc k))) = x.fourth

-- what stands in the lent places: one column a car, then what they held; a refusal leaves them
abbrev pub places_left : ℕ → Result Chosen Refusal → List ℕ → List ℕ
places_left cars (Ok choice) before = tab (column_at choice.columns) cars ++ drop cars before
places_left cars (Err refusal) before = before

-- a matrix that is not refused
pub record Small (cars columns : ℕ) (cells : List ℕ) : Type 0 where
  pub few_cars : cars ≤ 4
  pub few_columns : columns ≤ 5
  pub wide : cars ≤ columns
  pub whole : length cells ≡ cars * columns
  pub low : (k : ℕ) → get_or cells k 0 ≤ sentinel
