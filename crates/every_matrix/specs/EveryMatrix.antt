-- The text of every_matrix. Request F-13: "A program lists all 729 matrices of 2 cars and 3 columns with cells 0 to 2, each exactly once, rising as
-- six base-3 digits, row by row. A line holds the six digits, the two columns and the total". Assumes nothing.
use Rattle.std.specs.Prelude.{ℕ, ◌/◌, ◌%◌, List, [], ◌∷◌, ◌++◌}
use Rattle.assignment_problem.specs.Choice.{cell_at}
use Rattle.assignment_problem.specs.Recursion.{least_total, column_of}
use Rattle.text.specs.Text.{decimal}
use Rattle.text.specs.Lines.{line_end, lines_of}

-- the cells of matrix k, row by row: the six digits of k in base 3
unfoldable pub matrix_of : ℕ → List ℕ
matrix_of k = k / 243 % 3 ∷ k / 81 % 3 ∷ k / 27 % 3 ∷ k / 9 % 3 ∷ k / 3 % 3 ∷ k % 3 ∷ []

-- " "
abbrev pub blank : List ℕ
blank = 32 ∷ []

-- the cells, one after the other
abbrev pub cells_text : List ℕ → List ℕ
cells_text [] = []
cells_text (x ∷ xs) = decimal x ++ cells_text xs

-- `000000 0 1 0`
unfoldable pub line_text : List ℕ → ℕ → ℕ → ℕ → List ℕ
line_text cells first second total =
    cells_text cells ++ (blank ++ (decimal first ++ (blank ++ (decimal second ++ (blank ++ (decimal total ++ line_end))))))

-- matrix k with the columns and the total of its choice
unfoldable pub line_of : ℕ → List ℕ
line_of k =
    let c = cell_at (matrix_of k) 3 in line_text (matrix_of k) (column_of c 2 3 0) (column_of c 2 3 1) (least_total c 2 3)

unfoldable pub every_matrix : List ℕ
every_matrix = lines_of line_of 729
