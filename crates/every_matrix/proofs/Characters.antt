-- A line, character by character. Assumes nothing.
use Rattle.std.specs.Prelude.{ℕ, ◌+◌, ◌<◌, List, [], ◌∷◌, get_or}
use Rattle.std.proofs.Math.Path.{◌≡◌, sym, ap}
use native.Mathlib.Omega.{arith}
use Rattle.std.proofs.Math.ListN.{length}
use borrow.Author.Tests.{lt-ltb}
use Rattle.assignment_problem.specs.Choice.{cell_at}
use Rattle.assignment_problem.specs.Recursion.{least_total, column_of}
use Rattle.text.specs.Text.{decimal, decimal_of}
use Rattle.every_matrix.specs.EveryMatrix.{matrix_of, line_text, line_of}
use Rattle.every_matrix.specs.Laws.{Digits, line_digits}

decimal_digit : (n : ℕ) → n < 10 → decimal n ≡ (48 + n) ∷ []
unfolding decimal decimal_of
decimal_digit n h = rw (lt-ltb n 10 h)

-- a line, character by character
pub characters : (cells : List ℕ) (first second total : ℕ) → Digits cells first second total
    → (48 + get_or cells 0 0) ∷ (48 + get_or cells 1 0) ∷ (48 + get_or cells 2 0) ∷ (48 + get_or cells 3 0) ∷ (48 + get_or cells 4 0) ∷ (48 + get_or cells 5 0)
    ∷ 32 ∷ (48 + first) ∷ 32 ∷ (48 + second) ∷ 32 ∷ (48 + total) ∷ 10 ∷ [] ≡ line_text cells first second total
unfolding line_text
characters (x0 ∷ x1 ∷ x2 ∷ x3 ∷ x4 ∷ x5 ∷ []) first second total d =
    rw (
      decimal_digit x0 (d.digit 0),
      decimal_digit x1 (d.digit 1),
      decimal_digit x2 (d.digit 2),
      decimal_digit x3 (d.digit 3),
      decimal_digit x4 (d.digit 4),
      decimal_digit x5 (d.digit 5),
      decimal_digit first d.column,
      decimal_digit second d.other,
      decimal_digit total d.sum,
    )
characters (x0 ∷ x1 ∷ x2 ∷ x3 ∷ x4 ∷ x5 ∷ x6 ∷ l) first second total d = absurd (omega (arith, d.six))
characters (x0 ∷ x1 ∷ x2 ∷ x3 ∷ x4 ∷ []) first second total d = absurd (omega (arith, d.six))
characters (x0 ∷ x1 ∷ x2 ∷ x3 ∷ []) first second total d = absurd (omega (arith, d.six))
characters (x0 ∷ x1 ∷ x2 ∷ []) first second total d = absurd (omega (arith, d.six))
characters (x0 ∷ x1 ∷ []) first second total d = absurd (omega (arith, d.six))
characters (x0 ∷ []) first second total d = absurd (omega (arith, d.six))
characters [] first second total d = absurd (omega (arith, d.six))

pub line_length : (k : ℕ) → length (line_of k) ≡ 13
unfolding line_of
line_length k =
    let cell = cell_at (matrix_of k) 3 in
    ap length (sym (characters (matrix_of k) (column_of cell 2 3 0) (column_of cell 2 3 1) (least_total cell 2 3) (line_digits k)))
