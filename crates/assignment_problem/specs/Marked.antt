-- Marked cells: 64 for each unit of a cell and 1 more for a car that is left standing. Assumes nothing.
use Rattle.std.specs.Prelude.{ℕ, ◌+◌, ◌*◌, eqb}
use Rattle.laws.specs.Bools.{bit}
use Rattle.assignment_problem.specs.Choice.{sentinel}

-- a cell with its mark
unfoldable pub mark : ℕ → ℕ
mark x = 64 * x + bit (eqb x sentinel)

abbrev pub marked : (ℕ → ℕ → ℕ) → ℕ → ℕ → ℕ
marked c i j = mark (c i j)
