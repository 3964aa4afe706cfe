-- The writer's answers and what it leaves. Its state is the counts of the records so far, as the reader's is (layout: Offsets). It tests of the
-- record that is to be put what the reader would refuse there by 2, 6 and 7, in this order: the buffer ends before the record does, kinds out of
-- order, more records than the table allows or than the head can count. Raw bits that no record of components holds, a NaN's other patterns for one,
-- are not written by it: the crate put serves those. Assumes nothing.
use Rattle.std.specs.Prelude.{Result, Ok, Err, ℕ, ◌+◌, ◌-◌, ◌/◌, ◌%◌, Bool, true, false, cond, List, [], ◌∷◌, ltb, leb}
use Rattle.put.specs.Put.{put_at}
use Rattle.components.specs.declared.Kind.{Kind}
use Rattle.components.specs.declared.Kind.TheVariants.{Policy, Stop, Line, Car, Aboard, Waiting, Demand, Closed}
use Rattle.components.specs.Codes.{kind_code}
use Rattle.layout.specs.declared.Counts.{Counts}
use Rattle.layout.specs.Offsets.{none, next, end_of, record_length, across_bits, head_length}
use Rattle.layout.specs.Table.{head_edition_field, head_count_field}
use Rattle.layout.specs.Refusals.{refusal6, refusal7}
use Rattle.layout.specs.PlaceLaws.{all}
use Rattle.encoder.specs.Encoded.{fields_put}
use Rattle.writer.specs.declared.Edition.{Edition}
use Rattle.writer.specs.declared.Edition.TheVariants.{First, Second}
use Rattle.writer.specs.declared.PutError.{PutError}
use Rattle.writer.specs.declared.PutError.TheVariants.{NoRoom, OutOfOrder, Full}

-- how many bytes n bits reach into
abbrev pub bytes_for : ℕ → ℕ
bytes_for n = (n + 7) / 8

-- the most records that the head's 16 bits can count
abbrev pub most_records : ℕ
most_records = 65535

-- ---- answers

-- the counts from then on, or why nothing was written
abbrev pub Put : Type 0
Put = Result Counts PutError

-- of a record of a kind after those counted, in a buffer of n bytes
unfoldable pub answer_of : ℕ → Counts → Kind → Put
answer_of n c k =
    cond (ltb n (bytes_for (end_of c + record_length c.across k))) (Err NoRoom)
    (cond (refusal6 c (kind_code k)) (Err OutOfOrder)
    (cond (refusal7 c k) (Err Full)
    (cond (leb most_records (all c)) (Err Full)
    (Ok (next c k)))))

module _ (n : ℕ) (c : Counts) where
  abbrev pub policy_answer : Put
  policy_answer = answer_of n c Policy

  abbrev pub stop_answer : Put
  stop_answer = answer_of n c Stop

  abbrev pub line_answer : Put
  line_answer = answer_of n c Line

  abbrev pub car_answer : Put
  car_answer = answer_of n c Car

  abbrev pub aboard_answer : Put
  aboard_answer = answer_of n c Aboard

  abbrev pub waiting_answer : Put
  waiting_answer = answer_of n c Waiting

  abbrev pub demand_answer : Put
  demand_answer = answer_of n c Demand

  abbrev pub closed_answer : Put
  closed_answer = answer_of n c Closed

-- the number of each case: the reader's refusal that is spared, 0 where the record was written
abbrev pub error_number : PutError → ℕ
error_number NoRoom = 2
error_number OutOfOrder = 6
error_number Full = 7

abbrev pub put_number : Put → ℕ
put_number (Ok c) = 0
put_number (Err e) = error_number e

-- the counts from then on
abbrev pub counts_after : Put → Counts → Counts
counts_after (Ok d) c = d
counts_after (Err e) c = c

-- ---- the buffer

abbrev pub is_written : Put → Bool
is_written (Ok c) = true
is_written (Err e) = false

-- what was put where it was written, else what the buffer held
abbrev pub left_of : Put → List ℕ → List ℕ → List ℕ
left_of r s t = cond (is_written r) t s

-- "Head: edition 8 bits (1), record count 16 bits."
abbrev pub edition_code : Edition → ℕ
edition_code First = 1
edition_code Second = 2

unfoldable pub head_put : List ℕ → Edition → List ℕ
head_put s e = fields_put s 0 (head_edition_field ∷ head_count_field ∷ []) (edition_code e ∷ 0 ∷ [])

-- of a head, in a buffer of n bytes
unfoldable pub start_of : ℕ → Edition → Put
start_of n e = cond (ltb n (bytes_for head_length)) (Err NoRoom) (Ok (none (across_bits (edition_code e))))

-- "After the last record come 0 to 7 zero bits up to the byte's end, then nothing."
abbrev pub padding : ℕ → ℕ
padding n = (8 - n % 8) % 8

-- the record count in the head, and the tail
unfoldable pub finished : List ℕ → Counts → List ℕ
finished s c = put_at (put_at s head_count_field.start head_count_field.width (all c)) (end_of c) (padding (end_of c)) 0

-- the bytes of the sheet
abbrev pub sheet_bytes : Counts → ℕ
sheet_bytes c = bytes_for (end_of c)
