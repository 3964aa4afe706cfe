-- What a stored case asks, and what the reader answers. Assumes nothing.
use Rattle.std.specs.Prelude.{Err, Ok, Result}
use Rattle.layout.specs.declared.Refusal.{Refusal}
use Rattle.layout.specs.declared.Counts.{Counts}
use Rattle.std.specs.Prelude.{ℕ, ◌+◌, Bool, not, ◌&&◌, List, eqb, length, take, drop, Option}
use Rattle.layout.specs.Verdict.{verdict}
use Rattle.lists.specs.Lists.{part_length, verdict_at}
use Rattle.lists.specs.Heads.{by_head}
use Rattle.lists.specs.Compared.{AllCompared}
use Rattle.lists.specs.declared.Case.{Case}
use Rattle.lists.specs.declared.Tally.{Tally}
use Rattle.lists.specs.declared.Verdict.{Verdict}
use Rattle.replay_refusals.specs.declared.Sheets.{Sheets}

abbrev pub answer_of : Result Counts Refusal → Verdict
answer_of (Err r) = record { number = r.number; offset = r.offset }
answer_of (Ok c) = record { number = 0; offset = 0 }

-- the verdict on the n bytes from byte at + 2
abbrev pub got_at : List ℕ → ℕ → ℕ → Verdict
got_at s at n = answer_of (verdict (take n (drop (at + 2) s)))

abbrev pub agree : Verdict → Verdict → Bool
agree a b = eqb a.number b.number && eqb a.offset b.offset

-- the case at byte at, with a sheet of n bytes: what is stored of it stands after the sheet
abbrev pub compared_at : List ℕ → ℕ → ℕ → Case
compared_at s at n =
    record {
      next = at + 7 + n;
      marked = eqb (got_at s at n).number 0;
      differs = not (agree (got_at s at n) (verdict_at s (at + 2 + n)));
    }

-- the case at byte at, where a whole one stands there
abbrev pub case_of : List ℕ → ℕ → Option Case
case_of s at = by_head compared_at (part_length s at 7) s at

-- the totals after the whole list
abbrev pub Replayed : List ℕ → Tally Sheets → Type 0
Replayed s t = AllCompared (case_of s) (length s) t.cases t
