-- Document 02, request F-14: "with no candidate limit, one more bit in one car's restricted mask never lowers the total, the sheet being accepted
-- with it and without it, for every strategy and both editions." Assumes nothing.
--   NeverCheaper     the claim of any two passes, for any set of further bits in any cars' masks
--   never_cheaper    it holds
--   one_bar          one more bit is such a set
use Rattle.std.specs.Prelude.{Ok}
use Rattle.std.specs.Prelude.{ℕ, ◌≤◌, ◌≡◌}
use Rattle.layout.specs.declared.Counts.{Counts}
use Rattle.layout.specs.Records.{limit_of}
use Rattle.assignment.specs.Candidates.{no_limit}
use Rattle.bench.specs.Answers.{total_of}
use Rattle.bench.specs.Done.{Lent, Done, outcome_of}
use Rattle.bars.specs.Agree.{AgreeButBars, OneBar, one_agrees}

-- two sheets, c and d their counts
pub record BarPair (first second : Lent) (c d : Counts) : Type 0 where
  -- "the sheet being accepted with it and without it"
  pub first_accepted : outcome_of first ≡ Ok c
  pub second_accepted : outcome_of second ≡ Ok d
  pub agree : AgreeButBars first.bytes second.bytes c
  -- "with no candidate limit": no bar is a bit of the limit, so the second has none either
  pub no_limit_lem : limit_of first.bytes ≡ no_limit

-- "never lowers the total"
pub record NeverCheaper (first second : Lent) (x y : Done) : Type 0 where
  pub holds : (c d : Counts) → BarPair first second c d → total_of x.answer ≤ total_of y.answer

pub one_bar : (first second : Lent) (c d : Counts) (i k : ℕ) → outcome_of first ≡ Ok c → outcome_of second ≡ Ok d
    → OneBar first.bytes second.bytes c i k → limit_of first.bytes ≡ no_limit → BarPair first second c d
one_bar first second c d i k e f h l =
    record { first_accepted = e; second_accepted = f; agree = one_agrees first.bytes second.bytes c i k h; no_limit_lem = l }
