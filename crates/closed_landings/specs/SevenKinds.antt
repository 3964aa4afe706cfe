-- How a bench of seven kinds reads: the definitions of now with kind 8 taken out. The first release is one that also gives 15. Assumes nothing.
use Rattle.std.specs.Prelude.{Result}
use Rattle.layout.specs.declared.Refusal.{Refusal}
use Rattle.layout.specs.Refused.{refused}
use Prim.Native.Nat.{ℕ, zero, suc}
use Rattle.std.specs.Prelude.{◌≡◌, cond, List, eqb}
use Rattle.components.specs.declared.Kind.{Kind}
use Rattle.components.specs.declared.Kind.TheVariants.{Unknown}
use Rattle.components.specs.Codes.{kind_of}
use Rattle.layout.specs.declared.Counts.{Counts}
use Rattle.layout.specs.Offsets.{next, end_of}
use Rattle.layout.specs.Refusals.{record_count, kind_at}
use Rattle.layout.specs.Verdict.{head_rules, rules_of, first_of, given, tail_verdict, at_first}

-- document 01: "4, kind not 1 to 7"
unfoldable pub kind_of_seven : ℕ → Kind
kind_of_seven n = cond (eqb n 8) Unknown (kind_of n)

unfoldable pub refusal_of_seven : List ℕ → Counts → ℕ
refusal_of_seven s c = first_of (rules_of s c (kind_of_seven (kind_at s c)))

unfoldable pub records_of_seven : List ℕ → ℕ → Counts → Result Counts Refusal
records_of_seven s zero c = tail_verdict s c
records_of_seven s (suc n) c = given (refusal_of_seven s c) (end_of c) (records_of_seven s n (next c (kind_of_seven (kind_at s c))))

unfoldable pub verdict_of_seven : List ℕ → Result Counts Refusal
verdict_of_seven s = given (first_of (head_rules s)) 0 (records_of_seven s (record_count s) (at_first s))

-- a reading is 4, at a record of kind 8
pub record FourAtEight (s : List ℕ) (v : Result Counts Refusal) : Type 0 where
  pub before : Counts
  pub is_four : v ≡ refused 4 (end_of before)
  pub is_eight : kind_at s before ≡ 8
