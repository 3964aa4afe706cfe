-- The verdict on a byte string. Document 01: "1 is tested first, then the head (2 before 3), then each record in turn, within it by rising number, 16
-- last. The first found is given." Number 1 is the host's, who lends the buffers, and is not of the bytes. The tables of rules give the numbers that
-- can be given at the head, at a record and at the tail, in rising order, each with its condition. Assumes nothing.
use Rattle.std.specs.Prelude.{Ok, Result}
use Rattle.layout.specs.declared.Refusal.{Refusal}
use Rattle.layout.specs.Refused.{refused}
use Rattle.std.specs.Prelude.{ℕ, zero, suc, Bool, cond, List, [], ◌∷◌, eqb}
use Rattle.components.specs.declared.Kind.{Kind}
use Rattle.components.specs.declared.Kind.TheVariants.{Policy, Stop, Line, Car, Aboard, Waiting, Demand, Closed, Unknown}
use Rattle.components.specs.Codes.{kind_of}
use Rattle.layout.specs.declared.Counts.{Counts}
use Rattle.layout.specs.Offsets.{across_bits, none, next, end_of}
use Rattle.layout.specs.Records.{Fields, from}
use Rattle.layout.specs.Refusals.{edition, record_count, kind_at, length_at, refusal2_head, refusal3, refusal6_empty, refusal16}
use Rattle.layout.specs.Refusals.{refusal2, refusal4, refusal5, refusal6, refusal7}
use Rattle.layout.specs.Refusals.{refusal8_policy, refusal11_policy, refusal12, refusal9_stop, refusal11_stop, refusal9_line}
use Rattle.layout.specs.Refusals.{refusal10_line}
use Rattle.layout.specs.Refusals.{refusal8_car, refusal9_car, refusal10_car, refusal11_car, refusal13, refusal8_aboard, refusal9_aboard}
use Rattle.layout.specs.Refusals.{refusal10_aboard}
use Rattle.layout.specs.Refusals.{refusal8_waiting, refusal9_waiting, refusal10_waiting, refusal11_waiting, refusal14, refusal9_demand}
use Rattle.layout.specs.Refusals.{refusal10_demand, refusal9_closed, refusal10_closed}

-- ---- the tables of rules

-- a number, and whether its condition holds
abbrev pub Rule : Type 0
Rule = ℕ × Bool

-- "the head (2 before 3)"
abbrev pub head_rules : List ℕ → List Rule
head_rules s = (2, refusal2_head s) ∷ (3, refusal3 s) ∷ []

module _ (s : List ℕ) (c : Counts) where
  -- the numbers from 8 on, by kind
  abbrev pub body_rules : Kind → Fields → List Rule
  body_rules Policy f = (8, refusal8_policy f) ∷ (11, refusal11_policy f) ∷ (12, refusal12 f) ∷ []
  body_rules Stop f = (9, refusal9_stop s c f) ∷ (11, refusal11_stop c f) ∷ []
  body_rules Line f = (9, refusal9_line s c f) ∷ (10, refusal10_line c f) ∷ []
  body_rules Car f = (8, refusal8_car c f) ∷ (9, refusal9_car s c f) ∷ (10, refusal10_car s c f) ∷ (11, refusal11_car c f) ∷ (13, refusal13 c f) ∷ []
  body_rules Aboard f = (8, refusal8_aboard f) ∷ (9, refusal9_aboard f) ∷ (10, refusal10_aboard s c f) ∷ []
  body_rules Waiting f =
      (8, refusal8_waiting f) ∷ (9, refusal9_waiting f) ∷ (10, refusal10_waiting s c f) ∷ (11, refusal11_waiting f) ∷ (14, refusal14 f) ∷ []
  body_rules Demand f = (9, refusal9_demand s c f) ∷ (10, refusal10_demand s c f) ∷ []
  body_rules Closed f = (9, refusal9_closed s c f) ∷ (10, refusal10_closed s c f) ∷ []
  body_rules Unknown f = []

  -- the record after those counted, of kind k
  abbrev pub rules_of : Kind → List Rule
  rules_of k =
      (2, refusal2 s c)
      ∷ (4, refusal4 k)
      ∷ (5, refusal5 c k (length_at s c))
      ∷ (6, refusal6 c (kind_at s c))
      ∷ (7, refusal7 c k)
      ∷ body_rules k (from s (end_of c))

  abbrev pub record_rules : List Rule
  record_rules = rules_of (kind_of (kind_at s c))

  -- the tail, after the last record. Where there is no record at all it starts at 24, and 6 comes first
  abbrev pub tail_rules : List Rule
  tail_rules = (6, refusal6_empty s) ∷ (16, refusal16 s c) ∷ []

-- ---- the first that is found

-- the number where the condition holds, else the rest; 0 is no refusal
unfoldable pub pick : Bool → ℕ → ℕ → ℕ
pick b n rest = cond b n rest

-- the number of the first rule that holds, 0 where none does
unfoldable pub first_of : List Rule → ℕ
first_of [] = 0
first_of (r ∷ l) = pick r.1 r.0 (first_of l)

-- "The first found is given", with the bit where its place starts; the rest is read where no rule of this place holds
abbrev pub given : ℕ → ℕ → Result Counts Refusal → Result Counts Refusal
given number at rest = cond (eqb number 0) rest (refused number at)

module _ (s : List ℕ) (c : Counts) where
  abbrev pub body_refusal : Kind → Fields → ℕ
  body_refusal k f = first_of (body_rules s c k f)

  unfoldable pub record_refusal : ℕ
  record_refusal = first_of (record_rules s c)

  unfoldable pub tail_verdict : Result Counts Refusal
  tail_verdict = given (first_of (tail_rules s c)) (end_of c) (Ok c)

-- the records that are left, n of them, after those counted; then the tail
unfoldable pub records_verdict : List ℕ → ℕ → Counts → Result Counts Refusal
records_verdict s zero c = tail_verdict s c
records_verdict s (suc n) c = given (record_refusal s c) (end_of c) (records_verdict s n (next c (kind_of (kind_at s c))))

-- before the first record of a sheet
abbrev pub at_first : List ℕ → Counts
at_first s = none (across_bits (edition s))

unfoldable pub verdict : List ℕ → Result Counts Refusal
verdict s = given (first_of (head_rules s)) 0 (records_verdict s (record_count s) (at_first s))
