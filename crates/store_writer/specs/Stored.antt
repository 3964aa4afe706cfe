-- The answers of the writer of a store of weights, and what it leaves. Request F-1: "a bit-packed store of up to 256 records, most significant first:
-- setting 8 bits (0 to 5, the weight slots), start day 32, issue 16, value 64". It tests of the record that is to be put what the reader would refuse
-- there by 2 and 7, in this order; 8 and 11 are of the record's own values, and are the reader's. Assumes nothing.
use Rattle.std.specs.Prelude.{Result, Ok, Err, ℕ, ◌+◌, ◌*◌, Bool, true, false, cond, List, [], ◌∷◌, ltb, leb}
use Rattle.layout.specs.Table.{Field}
use Rattle.weight_store.specs.Entries.{Entry, entry_length, entry_setting_field, entry_start_field, entry_issue_field, entry_value_field}
use Rattle.encoder.specs.Encoded.{fields_put}
use Rattle.store_writer.specs.declared.StoreError.{StoreError}
use Rattle.store_writer.specs.declared.StoreError.TheVariants.{NoRoom, Full}

abbrev pub entry : ℕ → ℕ → ℕ → ℕ → Entry
entry setting start issue value = record { setting = setting; start = start; issue = issue; value = value }

abbrev pub entry_fields : List Field
entry_fields = entry_setting_field ∷ entry_start_field ∷ entry_issue_field ∷ entry_value_field ∷ []

-- record i put
unfoldable pub entry_put : List ℕ → ℕ → Entry → List ℕ
entry_put s i x = fields_put s (entry_length * i) entry_fields (x.setting ∷ x.start ∷ x.issue ∷ x.value ∷ [])

-- the number of records from then on, or why nothing was written
abbrev pub Stored : Type 0
Stored = Result ℕ StoreError

-- of a record after i others, in a buffer of n bytes
unfoldable pub stored_of : ℕ → ℕ → Stored
stored_of n i = cond (ltb n (15 * i + 15)) (Err NoRoom) (cond (leb 256 i) (Err Full) (Ok (i + 1)))

abbrev pub is_written : Stored → Bool
is_written (Ok n) = true
is_written (Err e) = false

-- what was put where it was written, else what the buffer held
abbrev pub stored_left : Stored → List ℕ → List ℕ → List ℕ
stored_left r s t = cond (is_written r) t s

-- the number of each case: the reader's refusal that is spared, 0 where the record was written; and how many records there are from then on
abbrev pub error_number : StoreError → ℕ
error_number NoRoom = 2
error_number Full = 7

abbrev pub stored_number : Stored → ℕ
stored_number (Ok n) = 0
stored_number (Err e) = error_number e

abbrev pub stored_count : Stored → ℕ → ℕ
stored_count (Ok n) before = n
stored_count (Err e) before = before
