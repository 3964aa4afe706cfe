-- What refuses a store, each number beside its sentence of request F-1. 18 is of a day, in crate `weights`. Assumes nothing.
use Rattle.std.specs.Prelude.{ℕ, ◌+◌, ◌*◌, Bool, not, ◌&&◌, List, [], ◌∷◌, eqb, ltb, leb}
use Rattle.std.specs.Float.Ieee.{of_bits}
use Rattle.std.specs.Float.{binary64}
use Rattle.laws.specs.Folds.{any}
use Rattle.laws.specs.First.{first_index}
use Rattle.fp.specs.Ranges.{is_mass}
use Rattle.layout.specs.Refusals.{past_end}
use Rattle.layout.specs.Verdict.{Rule, first_of}
use Rattle.weight_store.specs.Entries.{Entry, entry_length, entry_count, entry_of}
use Rattle.weight_store.specs.Values.{same_value}

-- ---- of one record

-- "2 when the last one is cut short"
unfoldable pub refusal2_store : List ℕ → ℕ → Bool
refusal2_store s i = past_end s (entry_length * i + entry_length)

-- "7 at a 257th"
unfoldable pub refusal7_store : ℕ → Bool
refusal7_store i = leb 256 i

-- "8 for a setting above 5"
unfoldable pub refusal8_store : Entry → Bool
refusal8_store e = ltb 5 e.setting

-- "11 for a value outside the weights' range"
unfoldable pub refusal11_store : Entry → Bool
refusal11_store e = not (is_mass (of_bits binary64 e.value))

-- "within each by rising number"
abbrev pub entry_rules : List ℕ → ℕ → Entry → List Rule
entry_rules s i e = (2, refusal2_store s i) ∷ (7, refusal7_store i) ∷ (8, refusal8_store e) ∷ (11, refusal11_store e) ∷ []

-- the number by which record i is refused; 0 is none
unfoldable pub entry_refusal : List ℕ → ℕ → ℕ
entry_refusal s i = first_of (entry_rules s i (entry_of s i))

unfoldable pub entry_refused : List ℕ → ℕ → Bool
entry_refused s i = not (eqb (entry_refusal s i) 0)

-- "Record by record": the first that is refused, as many as there are where none is
unfoldable pub first_refused : List ℕ → ℕ
first_refused s = first_index (entry_refused s) (entry_count s)

-- ---- of two, among n records e

-- "two records agree in setting, day and issue but not in value"
unfoldable pub disagree : Entry → Entry → Bool
disagree a b =
    eqb a.setting b.setting
    && (eqb a.start b.start
    && (eqb a.issue b.issue
    && not (same_value a.value b.value)))

-- record j is one "that disagrees with an earlier one"
unfoldable pub disagrees_earlier : (ℕ → Entry) → ℕ → Bool
disagrees_earlier e j = any (λ i. disagree (e i) (e j)) j

-- 17, "at the first record that disagrees with an earlier one"; n where none does
unfoldable pub first_disagreeing : ℕ → (ℕ → Entry) → ℕ
first_disagreeing n e = first_index (disagrees_earlier e) n
