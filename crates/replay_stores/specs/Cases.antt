-- What a stored case asks, and what the look-up answers. Assumes nothing.
use Rattle.std.specs.Prelude.{Err, Ok, Result}
use Rattle.layout.specs.declared.Refusal.{Refusal}
use Rattle.std.specs.Prelude.{ℕ, ◌+◌, Bool, not, ◌&&◌, List, [], ◌∷◌, eqb, length, take, drop, Option}
use Rattle.std.specs.Cmp.Lexicographic.{pointwise}
use Rattle.std.specs.Float.{binary64}
use Rattle.std.specs.Float.Ieee.{to_bits}
use Rattle.components.specs.declared.Strategy.{Strategy}
use Rattle.components.specs.Codes.{strategy_of}
use Rattle.weights.specs.declared.answer.SixWeights.{SixWeights}
use Rattle.weights.specs.Answers.{weights_of, used_by}
use Rattle.lists.specs.Lists.{number, part_length, verdict_at}
use Rattle.lists.specs.Heads.{by_head}
use Rattle.lists.specs.Compared.{AllCompared}
use Rattle.lists.specs.declared.Case.{Case}
use Rattle.lists.specs.declared.Tally.{Tally}
use Rattle.replay_stores.specs.declared.Answer.{Answer}
use Rattle.replay_stores.specs.declared.Stores.{Stores}

-- the bits of the six
abbrev pub found_of : SixWeights → Answer
found_of x =
    record {
      verdict = record { number = 0; offset = 0 };
      weights = to_bits binary64 x.w0
          ∷ to_bits binary64 x.w1
          ∷ to_bits binary64 x.w2
          ∷ to_bits binary64 x.w3
          ∷ to_bits binary64 x.w4
          ∷ to_bits binary64 x.w5
          ∷ [];
    }

-- an answer as a policy record of a strategy takes it
abbrev pub answer_of : Strategy → Result SixWeights Refusal → Answer
answer_of strategy (Ok x) = found_of (used_by strategy x)
answer_of strategy (Err r) = record { verdict = record { number = r.number; offset = r.offset }; weights = 0 ∷ 0 ∷ 0 ∷ 0 ∷ 0 ∷ 0 ∷ [] }

-- what is stored from byte at on
abbrev pub stored_at : List ℕ → ℕ → Answer
stored_at s at =
    record {
      verdict = verdict_at s at;
      weights = number s (at + 5) 8
          ∷ number s (at + 13) 8
          ∷ number s (at + 21) 8
          ∷ number s (at + 29) 8
          ∷ number s (at + 37) 8
          ∷ number s (at + 45) 8
          ∷ [];
    }

-- the answer of the store in the n bytes from byte at on, for the day and the strategy after them
abbrev pub got_at : List ℕ → ℕ → ℕ → Answer
got_at s at n = answer_of (strategy_of (number s (at + n + 4) 1)) (weights_of (take n (drop at s)) (number s (at + n) 4))

abbrev pub agree : Answer → Answer → Bool
agree a b =
    (eqb a.verdict.number b.verdict.number && eqb a.verdict.offset b.verdict.offset) && pointwise eqb a.weights b.weights

-- the case at byte at, with a store of n bytes: what is stored of it stands after the strategy
abbrev pub compared_at : List ℕ → ℕ → ℕ → Case
compared_at s at n =
    record {
      next = at + 60 + n;
      marked = eqb (got_at s (at + 2) n).verdict.number 0;
      differs = not (agree (got_at s (at + 2) n) (stored_at s (at + 2 + n + 5)));
    }

-- the case at byte at, where a whole one stands there
abbrev pub case_of : List ℕ → ℕ → Option Case
case_of s at = by_head compared_at (part_length s at 60) s at

-- the totals after the whole list
abbrev pub Replayed : List ℕ → Tally Stores → Type 0
Replayed s t = AllCompared (case_of s) (length s) t.cases t
