-- What a stored case asks, and what the travel time answers. Assumes nothing.
use Rattle.std.specs.Prelude.{Option, Some, None}
use Rattle.std.specs.Prelude.{ℕ, ◌+◌, ◌-◌, Bool, not, ◌&&◌, cond, List, eqb, ltb, Float, length, Option, Some, None}
use Rattle.std.specs.Float.{binary64}
use Rattle.std.specs.Float.Ieee.{of_bits, to_bits}
use Rattle.travel.specs.Answers.{travel_time_of}
use Rattle.lists.specs.Lists.{number}
use Rattle.lists.specs.Compared.{AllCompared}
use Rattle.lists.specs.declared.Case.{Case}
use Rattle.lists.specs.declared.Tally.{Tally}
use Rattle.replay_travel.specs.declared.Answer.{Answer}
use Rattle.replay_travel.specs.declared.Runs.{Runs}

abbrev pub answer_of : Option Float → Answer
answer_of (Some x) = record { number = 0; time = to_bits binary64 x }
answer_of None = record { number = 21; time = 0 }

-- what is stored from byte at on
abbrev pub stored_at : List ℕ → ℕ → Answer
stored_at s at = record { number = number s at 1; time = number s (at + 1) 8 }

abbrev pub double_at : List ℕ → ℕ → Float
double_at s at = of_bits binary64 (number s at 8)

-- the answer of the five doubles from byte at on
abbrev pub got_at : List ℕ → ℕ → Answer
got_at s at =
    answer_of (travel_time_of (double_at s at) (double_at s (at + 8)) (double_at s (at + 16)) (double_at s (at + 24)) (double_at s (at + 32)))

abbrev pub agree : Answer → Answer → Bool
agree a b = eqb a.number b.number && eqb a.time b.time

-- the case at byte at: what is stored of it stands after the doubles
abbrev pub compared_at : List ℕ → ℕ → Case
compared_at s at =
    record { next = at + 49; marked = eqb (got_at s at).number 0; differs = not (agree (got_at s at) (stored_at s (at + 40))) }

-- the case at byte at, where a whole one stands there
abbrev pub case_of : List ℕ → ℕ → Option Case
case_of s at = cond (ltb (length s - at) 49) None (Some (compared_at s at))

-- the totals after the whole list
abbrev pub Replayed : List ℕ → Tally Runs → Type 0
Replayed s t = AllCompared (case_of s) (length s) t.cases t
