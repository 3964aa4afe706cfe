-- What a store answers for a day, its number and values, and what a policy record takes of it. Assumes nothing.
use Rattle.std.specs.Prelude.{Err, Ok, Result}
use Rattle.layout.specs.declared.Refusal.{Refusal}
use Rattle.layout.specs.Refused.{refused}
use Rattle.std.specs.Prelude.{ℕ, ◌*◌, cond, List, ◌∷◌, ltb, Float, drop}
use Rattle.fp.specs.Num.{zero}
use Rattle.components.specs.declared.Strategy.{Strategy}
use Rattle.components.specs.declared.Strategy.TheVariants.{Etd, Rsr, Scan, Unknown}
use Rattle.weight_store.specs.Entries.{Entry, entry_length, entry_count, entry_of}
use Rattle.weight_store.specs.Refusals.{entry_refusal, first_refused, first_disagreeing}
use Rattle.weights.specs.declared.answer.SixWeights.{SixWeights}
use Rattle.weights.specs.LookUp.{slot_weight, first_missing}

-- "the six, in slot order"
unfoldable pub six_of : ℕ → (ℕ → Entry) → ℕ → SixWeights
six_of n e day =
    record {
      w0 = slot_weight n e day 0;
      w1 = slot_weight n e day 1;
      w2 = slot_weight n e day 2;
      w3 = slot_weight n e day 3;
      w4 = slot_weight n e day 4;
      w5 = slot_weight n e day 5;
    }

-- 18 "when a slot has no record for the day, with the lowest such slot in the offset's stead"
unfoldable pub look_up : ℕ → (ℕ → Entry) → ℕ → Result SixWeights Refusal
look_up n e day = cond (ltb (first_missing n e day) 6) (refused 18 (first_missing n e day)) (Ok (six_of n e day))

-- 17, "tested over the whole store once every record has passed the others, before any look-up"
unfoldable pub passed_answer : ℕ → (ℕ → Entry) → ℕ → Result SixWeights Refusal
passed_answer n e day = cond (ltb (first_disagreeing n e) n) (refused 17 (entry_length * first_disagreeing n e)) (look_up n e day)

-- 2, 7, 8 and 11 "each with the record's bit offset"
unfoldable pub weights_of : List ℕ → ℕ → Result SixWeights Refusal
weights_of s day =
    cond (ltb (first_refused s) (entry_count s)) (refused (entry_refusal s (first_refused s)) (entry_length * first_refused s))
    (passed_answer (entry_count s) (entry_of s) day)

-- "for a policy record's weights (those its strategy leaves unused stay zero there)": unused are ETD's sixth and SCAN's six
abbrev pub used_by : Strategy → SixWeights → SixWeights
used_by Etd x = record { w0 = x.w0; w1 = x.w1; w2 = x.w2; w3 = x.w3; w4 = x.w4; w5 = zero }
used_by Rsr x = x
used_by Scan x = record { w0 = zero; w1 = zero; w2 = zero; w3 = zero; w4 = zero; w5 = zero }
used_by Unknown x = record { w0 = zero; w1 = zero; w2 = zero; w3 = zero; w4 = zero; w5 = zero }

-- ---- for a host, who lends places for the six

-- refusal 1, of these places, at offset 0; then the store's own
unfoldable pub lent_weights : List ℕ → ℕ → ℕ → Result SixWeights Refusal
lent_weights s day places = cond (ltb places 6) (refused 1 0) (weights_of s day)

-- the values of an answer: where the six are found the number is 0

abbrev pub weights_number : Result SixWeights Refusal → ℕ
weights_number (Ok x) = 0
weights_number (Err r) = r.number

-- what stands in the lent offset: what is found leaves it
abbrev pub weights_offset : Result SixWeights Refusal → ℕ → ℕ
weights_offset (Ok x) entry = entry
weights_offset (Err r) entry = r.offset

-- what stands in the lent places: "the six, in slot order", then what stood there; a refusal leaves them
abbrev pub weights_left : Result SixWeights Refusal → List Float → List Float
weights_left (Ok x) entry = x.w0 ∷ x.w1 ∷ x.w2 ∷ x.w3 ∷ x.w4 ∷ x.w5 ∷ drop 6 entry
weights_left (Err r) entry = entry
