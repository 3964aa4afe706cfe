-- The store's records. Request F-1: "a bit-packed store of up to 256 records, most significant first: setting 8 bits (0 to 5, the weight slots),
-- start day 32, issue 16, value 64". The store has no head: record i is the 120 bits from bit 120 × i. Assumes nothing.
use Rattle.std.specs.Prelude.{ℕ, ◌+◌, ◌-◌, ◌*◌, ◌/◌, ◌^◌, ◌<◌, ◌≡◌, refl, true, List, [], ◌∷◌, ltb, length}
use Rattle.std.proofs.Common.{arith, ltb-true, lt-ltb}
use Rattle.laws.specs.Bools.{same_test}
use Rattle.bits.specs.Field.{field_lt}
use Rattle.layout.specs.Table.{Field, field, ◌then◌, covers}
use Rattle.layout.specs.Records.{Fields, from, read}

-- "setting 8 bits"
abbrev pub entry_setting_field : Field
entry_setting_field = field 0 8

-- "start day 32"
abbrev pub entry_start_field : Field
entry_start_field = entry_setting_field then 32

-- "issue 16"
abbrev pub entry_issue_field : Field
entry_issue_field = entry_start_field then 16

-- "value 64"
abbrev pub entry_value_field : Field
entry_value_field = entry_issue_field then 64

-- a record's length
abbrev pub entry_length : ℕ
entry_length = 120

-- the four fields are its bits, with no gap and no overlap
pub entry_covered : covers 0 entry_length (entry_setting_field ∷ entry_start_field ∷ entry_issue_field ∷ entry_value_field ∷ []) ≡ true
unfolding covers
entry_covered = refl

-- a record: the numbers that its fields stand for
pub record Entry : Type 0 where
  pub setting : ℕ
  pub start : ℕ
  pub issue : ℕ
  pub value : ℕ

-- record i
unfoldable pub entry_of : List ℕ → ℕ → Entry
entry_of s i =
    let f : Fields = from s (entry_length * i) in
    record { setting = read f entry_setting_field; start = read f entry_start_field; issue = read f entry_issue_field; value = read f entry_value_field }

-- how many records there are: one wherever a bit of it stands
unfoldable pub entry_count : List ℕ → ℕ
entry_count s = (8 * length s + (entry_length - 1)) / entry_length

-- ---- laws

pub issue_lt : (s : List ℕ) (i : ℕ) → (entry_of s i).issue < 2 ^ 16
unfolding entry_of
issue_lt s i = field_lt s (120 * i + 40) 16

-- record i is there where its first bit is
pub entry_there : (s : List ℕ) (i : ℕ) → ltb (entry_length * i) (8 * length s) ≡ ltb i (entry_count s)
unfolding entry_count
entry_there s i =
    same_test _ _
    (λ h. let l = ltb-true (120 * i) (8 * length s) h in lt-ltb i ((8 * length s + 119) / 120) (omega arith))
    (λ h. let l = ltb-true i ((8 * length s + 119) / 120) h in lt-ltb (120 * i) (8 * length s) (omega arith))

-- in bytes
pub byte_there : (s : List ℕ) (i : ℕ) → ltb (15 * i) (length s) ≡ ltb i (entry_count s)
unfolding entry_count
byte_there s i =
    same_test _ _
    (λ h. let l = ltb-true (15 * i) (length s) h in lt-ltb i ((8 * length s + 119) / 120) (omega arith))
    (λ h. let l = ltb-true i ((8 * length s + 119) / 120) h in lt-ltb (15 * i) (length s) (omega arith))
