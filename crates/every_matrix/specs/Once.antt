-- The number of a matrix. Assumes nothing.
use Rattle.std.specs.Prelude.{ℕ, ◌+◌, ◌*◌, List, get_or}

-- the number whose digits in base 3 these are, row by row
abbrev pub number_of : List ℕ → ℕ
number_of l = 243 * get_or l 0 0 + 81 * get_or l 1 0 + 27 * get_or l 2 0 + 9 * get_or l 3 0 + 3 * get_or l 4 0 + get_or l 5 0
