-- Worked stores, computed by the prover. Assumes nothing.
use Rattle.std.specs.Prelude.{Ok}
use Rattle.layout.specs.Refused.{refused}
use Rattle.std.specs.Prelude.{ℕ, ◌≡◌, refl, List, [], ◌∷◌, Float}
use Rattle.std.specs.Float.Ieee.{of_bits, lt, le, eq}
use Rattle.std.specs.Float.{binary64}
use Rattle.laws.specs.Folds.{any, nth, count}
use Rattle.fp.specs.Ranges.{is_mass}
use Rattle.bits.specs.Field.{bit_at, field_at}
use Rattle.layout.specs.Verdict.{pick, first_of}
use Rattle.weights.specs.declared.answer.SixWeights.{SixWeights}
use Rattle.laws.specs.First.{first_index}
use Rattle.weight_store.specs.Entries.{entry_count, entry_of}
use Rattle.weight_store.specs.Values.{same_value, weight_back}
use Rattle.weight_store.specs.Refusals.{refusal2_store, refusal7_store, refusal8_store, refusal11_store, entry_refusal, entry_refused, first_refused}
use Rattle.weight_store.specs.Refusals.{disagree, disagrees_earlier, first_disagreeing}
use Rattle.weights.specs.LookUp.{started, latest, taken, first_taken, slot_weight, missing, first_missing}
use Rattle.weights.specs.Answers.{six_of, look_up, passed_answer, weights_of, lent_weights}

-- one name that opens every definition from bytes to the answer
unfoldable pub storing : ℕ
unfolding of_bits lt le eq any nth count is_mass bit_at field_at pick first_of first_index entry_count entry_of same_value weight_back refusal2_store refusal7_store refusal8_store refusal11_store entry_refusal entry_refused first_refused disagree disagrees_earlier first_disagreeing started latest taken first_taken slot_weight missing first_missing six_of look_up passed_answer weights_of
storing = 0

-- a record with a start below 256, an issue below 256, and a value by its first two bytes
abbrev line : ℕ → ℕ → ℕ → ℕ → ℕ → List ℕ → List ℕ
line slot start issue v w rest = slot ∷ 0 ∷ 0 ∷ 0 ∷ start ∷ 0 ∷ issue ∷ v ∷ w ∷ 0 ∷ 0 ∷ 0 ∷ 0 ∷ 0 ∷ 0 ∷ rest

empty : weights_of [] 7 ≡ refused 18 0
unfolding storing
empty = refl

-- record by record: the first record's setting before the second's end
setting_nine : weights_of (line 9 0 0 0 0 (0 ∷ [])) 7 ≡ refused 8 0
unfolding storing
setting_nine = refl

-- the second record has one byte
short_second : weights_of (line 0 0 0 0 0 (9 ∷ [])) 7 ≡ refused 2 120
unfolding storing
short_second = refl

-- a value above 1,000,000,000, and a NaN
above : weights_of (line 0 0 0 65 222 []) 7 ≡ refused 11 0
unfolding storing
above = refl

not_a_number : weights_of (line 0 0 0 127 248 []) 7 ≡ refused 11 0
unfolding storing
not_a_number = refl

-- 1.0 and 2.0 under one setting, day and issue
unlike : weights_of (line 0 5 1 63 240 (line 0 5 1 64 0 [])) 7 ≡ refused 17 120
unfolding storing
unlike = refl

-- every record is tested by itself first
unlike_and_above : weights_of (line 0 5 1 63 240 (line 0 5 1 64 0 (line 0 0 0 65 222 []))) 7 ≡ refused 11 240
unfolding storing
unlike_and_above = refl

-- the first that disagrees with an earlier one is the third, with the second
unlike_later : weights_of (line 1 5 1 63 240 (line 0 5 1 63 240 (line 0 5 1 64 0 (line 1 5 1 64 0 [])))) 7 ≡ refused 17 240
unfolding storing
unlike_later = refl

-- zero and minus zero are two values
zeros : weights_of (line 0 5 1 0 0 (line 0 5 1 128 0 [])) 7 ≡ refused 17 120
unfolding storing
zeros = refl

-- minus zero twice is one: what is missing is slot 1
minus_zeros : weights_of (line 0 5 1 128 0 (line 0 5 1 128 0 [])) 7 ≡ refused 18 1
unfolding storing
minus_zeros = refl

-- slot 0: 1.0 from day 5, corrected to 2.0, and 0.5 from day 9 on; slots 1 to 5 minus zero
corrected : List ℕ
corrected =
    line 0 5 1 63 240
    (line 0 9 0 63 224
    (line 0 5 2 64 0
    (line 1 0 0 128 0
    (line 2 0 0 128 0
    (line 3 0 0 128 0
    (line 4 0 0 128 0
    (line 5 0 0 128 0
    [])))))))

abbrev minus_zero : Float
minus_zero = of_bits binary64 0x8000_0000_0000_0000

-- minus zeros come back as they stand there
six : ℕ → SixWeights
six b = record { w0 = of_bits binary64 b; w1 = minus_zero; w2 = minus_zero; w3 = minus_zero; w4 = minus_zero; w5 = minus_zero }

before_all : weights_of corrected 4 ≡ refused 18 0
unfolding storing corrected
before_all = refl

highest_issue : weights_of corrected 8 ≡ Ok (six 0x4000_0000_0000_0000)
unfolding storing corrected six
highest_issue = refl

latest_start : weights_of corrected 9 ≡ Ok (six 0x3fe0_0000_0000_0000)
unfolding storing corrected six
latest_start = refl

-- a host that lends five places
five_places : lent_weights corrected 9 5 ≡ refused 1 0
unfolding lent_weights
five_places = refl
