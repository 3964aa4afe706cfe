-- What the grader answers and leaves, of what it is lent: one definition. Request F-8: "The grader is lent a matrix alone (1 when below 2,048) and
-- fills it as the pass does." Assumes nothing.
use Rattle.std.specs.Prelude.{Err, Ok, Result}
use Rattle.grade.specs.declared.Graded.{Graded}
use Rattle.layout.specs.declared.Refusal.{Refusal}
use Rattle.layout.specs.declared.Counts.{Counts}
use Rattle.layout.specs.Refused.{refused}
use Rattle.grade.specs.declared.Graded.TheVariants.{Least, NotShown}
use Rattle.std.specs.Prelude.{ℕ, Bool, cond, List, ltb, length, ℤ}
use Rattle.components.specs.Sheet.{Sheet}
use Rattle.layout.specs.Records.{sheet_of, limit_of}
use Rattle.layout.specs.Verdict.{verdict}
use Rattle.assignment.specs.Pending.{idle_cars, columns}
use Rattle.assignment.specs.Cells.{matrix}
use Rattle.outcome.specs.Outcome.{cells_of}
use Rattle.shown.specs.Shown.{shown}
use Rattle.shown.specs.Fits.{price_at, column_of}
use Rattle.shown.specs.Refusals.{refusal19, refusal20}

-- "Sites send the columns that their controller chose, one an idle car, and prices from a solver of their own"
pub record Sent : Type 0 where
  pub columns : List ℕ
  pub car_prices : List ℤ
  pub column_prices : List ℤ

abbrev pub sent : List ℕ → List ℤ → List ℤ → Sent
sent columns u v = record { columns = columns; car_prices = u; column_prices = v }

-- an answer, and the matrix as it was left
pub record Done : Type 0 where
  pub answer : Result Graded Refusal
  pub cells : List ℕ

abbrev pub done : Result Graded Refusal → List ℕ → Done
done answer cells = record { answer = answer; cells = cells }

-- "1 when below 2,048"
unfoldable pub short_matrix : ℕ → Bool
short_matrix cells = ltb cells 2048

-- 1 first, at offset 0, then "The sheet's own refusals"
unfoldable pub outcome_of : List ℕ → ℕ → Result Counts Refusal
outcome_of bytes cells = cond (short_matrix cells) (refused 1 0) (verdict bytes)

-- what is sent shows that it is least, of the cells of a sheet under a limit
unfoldable pub shown_least : Sheet → ℕ → Sent → Bool
shown_least s limit x =
    shown (idle_cars s) (columns s) (matrix s limit) (column_of x.columns) (price_at x.car_prices) (price_at x.column_prices)

-- "The grader answers "least" when all this holds and "not shown" otherwise."
unfoldable pub graded : Bool → Result Graded Refusal
graded b = cond b (Ok Least) (Ok NotShown)

-- "then 19, then 20, both at offset 0"; what is graded has the matrix filled "as the pass does"
unfoldable pub judged : Sheet → ℕ → Sent → List ℕ → Done
judged s limit x entry =
    cond (refusal19 (idle_cars s) (columns s) x.columns) (done (refused 19 0) entry)
    (cond (refusal20 (idle_cars s) (columns s) x.car_prices x.column_prices) (done (refused 20 0) entry)
    (done (graded (shown_least s limit x)) (cells_of s limit entry)))

-- "All lent buffers keep their contents" on a refusal
abbrev pub done_of : Result Counts Refusal → List ℕ → Sent → List ℕ → Done
done_of (Err r) bytes x entry = done (Err r) entry
done_of (Ok c) bytes x entry = judged (sheet_of bytes c) (limit_of bytes) x entry

-- the grade of what is lent: the bytes of a sheet, what a site sent, and the matrix as it was
abbrev pub grade_of : List ℕ → Sent → List ℕ → Done
grade_of bytes x entry = done_of (outcome_of bytes (length entry)) bytes x entry

-- the values of an answer: what is graded has number 0

abbrev pub graded_number : Result Graded Refusal → ℕ
graded_number (Ok Least) = 0
graded_number (Ok NotShown) = 0
graded_number (Err r) = r.number

-- what is written where a value is lent: 1 for "least", 0 for "not shown"; a refusal leaves it

abbrev pub graded_least : Result Graded Refusal → ℕ → ℕ
graded_least (Ok Least) entry = 1
graded_least (Ok NotShown) entry = 0
graded_least (Err r) entry = entry

-- what is graded leaves the offset
abbrev pub graded_offset : Result Graded Refusal → ℕ → ℕ
graded_offset (Ok Least) entry = entry
graded_offset (Ok NotShown) entry = entry
graded_offset (Err r) entry = r.offset
