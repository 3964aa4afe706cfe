-- Of the 729 lines each matrix has one, and they rise. Assumes nothing.
--   lines_whole line_of_lem                 729 lines of 13 characters; line k stands at its place
--   number_of matrix_number                 matrix k has the digits of k in base 3, so that later lines have larger matrices
--   every_matrix_lem only_one               each matrix of cells 0 to 2 has one line
--   first_line last_line                    the first and the last line
use Rattle.std.specs.Prelude.{ℕ, ◌+◌, ◌*◌, ◌<◌, ◌/◌, ◌%◌, ◌≡◌, refl, [], ◌∷◌, length, take, drop}
use Rattle.std.proofs.Common.{sym, ap, ◌∙◌, arith}
use Rattle.std.proofs.Math.Nat.{div-div-eq-div-mul, div-add-mod}
use Rattle.assignment_problem.specs.Recursion.{best, scan, chosen, least_total}
use Rattle.text.specs.Text.{decimal, decimal_of}
use Rattle.text.specs.Lines.{lines_length, line_at}
use Rattle.every_matrix.specs.EveryMatrix.{matrix_of, line_text, line_of, every_matrix}
use Rattle.every_matrix.specs.Once.{number_of}
use Rattle.every_matrix.proofs.Characters.{line_length}

-- 729 lines of 13 characters
pub lines_whole : length every_matrix ≡ 729 * 13
unfolding every_matrix
lines_whole = lines_length 13 line_of line_length 729

-- line k is matrix k's
pub line_of_lem : (k : ℕ) → k < 729 → take 13 (drop (k * 13) every_matrix) ≡ line_of k
unfolding every_matrix
line_of_lem k h = line_at 13 line_of line_length 729 k h

chain : (k a b c d e p q r s t u : ℕ) → 3 * a + u ≡ k → 3 * b + t ≡ a → 3 * c + s ≡ b → 3 * d + r ≡ c → 3 * e + q ≡ d → p ≡ e
    → 243 * p + 81 * q + 27 * r + 9 * s + 3 * t + u ≡ k
chain k a b c d e p q r s t u h0 h1 h2 h3 h4 h5 = omega arith

next : (k n : ℕ) → 3 * (k / (n * 3)) + k / n % 3 ≡ k / n
next k n = ap (λ (x : ℕ). 3 * x + k / n % 3) (sym (div-div-eq-div-mul k n 3)) ∙ div-add-mod (k / n) 3

-- the lines rise: line k has the matrix whose digits make k
pub matrix_number : (k : ℕ) → k < 729 → number_of (matrix_of k) ≡ k
unfolding matrix_of
matrix_number k h = chain k (k / 3) (k / 9) (k / 27) (k / 81) (k / 243) (k / 243 % 3) (k / 81 % 3) (k / 27 % 3) (k / 9 % 3) (k / 3 % 3) (k % 3)
    (div-add-mod k 3) (next k 3) (next k 9) (next k 27) (next k 81) (omega arith)

-- each matrix has a line
pub every_matrix_lem : (a b c d e f : ℕ) → a < 3 → b < 3 → c < 3 → d < 3 → e < 3 → f < 3
    → (k : ℕ) × (k < 729) × (matrix_of k ≡ a ∷ b ∷ c ∷ d ∷ e ∷ f ∷ [])
unfolding matrix_of
every_matrix_lem a b c d e f ha hb hc hd he hf =
    let k : ℕ = 243 * a + 81 * b + 27 * c + 9 * d + 3 * e + f in
    let e0 : k / 243 % 3 ≡ a = omega arith in
    let e1 : k / 81 % 3 ≡ b = omega arith in
    let e2 : k / 27 % 3 ≡ c = omega arith in
    let e3 : k / 9 % 3 ≡ d = omega arith in
    let e4 : k / 3 % 3 ≡ e = omega arith in
    let e5 : k % 3 ≡ f = omega arith in
    (k, omega arith, rw (e0, e1, e2, e3, e4, e5))

-- and only one
pub only_one : (k h : ℕ) → k < 729 → h < 729 → matrix_of k ≡ matrix_of h → k ≡ h
only_one k h lk lh e = sym (matrix_number k lk) ∙ ap number_of e ∙ matrix_number h lh

-- "the first is `000000 0 1 0`, the last `222222 0 1 4`"
pub first_line : line_of 0 ≡ 48 ∷ 48 ∷ 48 ∷ 48 ∷ 48 ∷ 48 ∷ 32 ∷ 48 ∷ 32 ∷ 49 ∷ 32 ∷ 48 ∷ 10 ∷ []
unfolding line_of line_text decimal decimal_of matrix_of chosen least_total best scan
first_line = refl

pub last_line : line_of 728 ≡ 50 ∷ 50 ∷ 50 ∷ 50 ∷ 50 ∷ 50 ∷ 32 ∷ 48 ∷ 32 ∷ 49 ∷ 32 ∷ 52 ∷ 10 ∷ []
unfolding line_of line_text decimal decimal_of matrix_of chosen least_total best scan
last_line = refl
