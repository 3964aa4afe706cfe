-- What stands in the sheet that is finished: every item as it was put, the edition and the number of records in the head, and zero bits after the
-- last record. Assumes nothing.
use Prim.Native.Nat.{ℕ, zero, suc, ◌+◌, ◌*◌, ◌%◌, ◌^◌, ◌≤◌, ◌<◌}
use Rattle.std.specs.Prelude.{Err, ◌≡◌, Bool, true, false, cond, List, [], ◌∷◌, ◌⊎◌, ltb, leb}
use Rattle.std.proofs.Math.Path.{refl, ap}
use Rattle.std.proofs.Common.{sym, ◌∙◌, subst, inl, inr}
use Rattle.std.proofs.Math.Logic.{⊎_elim}
use Rattle.std.proofs.Math.Nat.{zero-mod}
use native.Mathlib.Omega.{arith}
use Rattle.std.proofs.Math.ListN.{length}
use Rattle.std.proofs.Math.Seq.{length-take-le}
use borrow.Author.Tests.{ltb-false, leb-false}
use Rattle.laws.specs.Bools.{never, same?}
use Rattle.bits.specs.Field.{bit_at, field_at, field_take}
use Rattle.put.specs.Put.{put_at}
use Rattle.put.specs.PutLaws.{field_same}
use Rattle.put.proofs.PutLaws.{put_length, put_kept, put_read, put_back}
use Rattle.components.specs.declared.Kind.{Kind}
use Rattle.components.specs.declared.Kind.TheVariants.{Policy, Stop, Line, Car, Aboard, Waiting, Demand, Closed, Unknown}
use Rattle.components.specs.Codes.{kind_code}
use Rattle.layout.specs.declared.Counts.{Counts}
use Rattle.layout.specs.Offsets.{next, end_of, record_length}
use Rattle.layout.specs.Table.{covers, bits_covered, head_covered}
use Rattle.layout.specs.Refusals.{refusal4, refusal6, refusal7}
use Rattle.layout.proofs.PlaceLaws.{end_next}
use Rattle.layout.specs.PlaceLaws.{all}
use Rattle.encoder.specs.Encoded.{record_fields, record_values, record_at}
use Rattle.encoder.specs.EncodedLaws.{Reads, fields_length, reads_same}
use Rattle.encoder.proofs.FieldLaws.{fields_elsewhere, fields_read}
use Rattle.writer.specs.declared.Edition.{Edition}
use Rattle.writer.specs.declared.Edition.TheVariants.{First, Second}
use Rattle.writer.specs.declared.PutError.TheVariants.{NoRoom, OutOfOrder, Full}
use Rattle.writer.specs.Puts.{Put, bytes_for, most_records, answer_of, start_of, is_written, head_put, edition_code, finished, padding, sheet_bytes}
use Rattle.writer_laws.specs.Run.{Item, policy, stop, line, car, aboard, waiting, demand, closed, item_kind, item_values, across_of}
use Rattle.writer_laws.specs.Run.{counts_at, buffer_at, AllWritten, sheet_at}

-- ---- what an answer says

peel : (b : Bool) (x y : Put) → is_written x ≡ false → is_written (cond b x y) ≡ true → (b ≡ false) × (is_written y ≡ true)
peel true x y h k = never (sym h ∙ k)
peel false x y h k = (refl, k)

-- a record that was written has room, is in order and not one too many
pub record Taken (n : ℕ) (c : Counts) (k : Kind) : Type 0 where
  pub room : bytes_for (end_of c + record_length c.across k) ≤ n
  pub in_order : refusal6 c (kind_code k) ≡ false
  pub not_full : refusal7 c k ≡ false
  pub countable : all c < most_records

pub taken : (n : ℕ) (c : Counts) (k : Kind) → is_written (answer_of n c k) ≡ true → Taken n c k
unfolding answer_of
taken n c k h =
    let a = peel (ltb n (bytes_for (end_of c + record_length c.across k))) (Err NoRoom) _ refl h in
    let b = peel (refusal6 c (kind_code k)) (Err OutOfOrder) _ refl a.1 in
    let d = peel (refusal7 c k) (Err Full) _ refl b.1 in
    let f = peel (leb most_records (all c)) (Err Full) _ refl d.1 in
    record { room = ltb-false _ _ a.0; in_order = b.0; not_full = d.0; countable = leb-false _ _ f.0 }

-- ---- one record more

all_next : (c : Counts) (k : Kind) → refusal4 k ≡ false → all (next c k) ≡ all c + 1
all_next c Policy h = omega arith
all_next c Stop h = omega arith
all_next c Line h = omega arith
all_next c Car h = omega arith
all_next c Aboard h = omega arith
all_next c Waiting h = omega arith
all_next c Demand h = omega arith
all_next c Closed h = omega arith
all_next c Unknown h = never (sym h)

across_next : (c : Counts) (k : Kind) → (next c k).across ≡ c.across
across_next c Policy = refl
across_next c Stop = refl
across_next c Line = refl
across_next c Car = refl
across_next c Aboard = refl
across_next c Waiting = refl
across_next c Demand = refl
across_next c Closed = refl
across_next c Unknown = refl

pub known : (x : Item) → refusal4 (item_kind x) ≡ false
known (policy l x) = refl
known (stop x) = refl
known (line x) = refl
known (car x) = refl
known (aboard x) = refl
known (waiting x) = refl
known (demand x) = refl
known (closed id) = refl

-- the fields of a record are its bits
pub record_covered : (e : Edition) (k : Kind) → covers 0 (record_length (across_of e) k) (record_fields (across_of e) k) ≡ true
unfolding covers
record_covered First k = (bits_covered k).0
record_covered Second k = (bits_covered k).1

-- ---- after each item

module _ (s : List ℕ) (e : Edition) (r : ℕ → Item) where
  pub across_at : (n : ℕ) → (counts_at s e r n).across ≡ across_of e
  unfolding counts_at
  across_at zero = refl
  across_at (suc n) = across_next (counts_at s e r n) (item_kind (r n)) ∙ across_at n

  -- the next record starts where this one ends
  pub end_at : (n : ℕ) → end_of (counts_at s e r (suc n)) ≡ end_of (counts_at s e r n) + record_length (across_of e) (item_kind (r n))
  unfolding counts_at
  end_at n =
      end_next (counts_at s e r n) (item_kind (r n)) (known (r n))
      ∙ ap (λ (w : ℕ). end_of (counts_at s e r n) + record_length w (item_kind (r n))) (across_at n)

  pub all_at : (n : ℕ) → all (counts_at s e r n) ≡ n
  unfolding counts_at
  all_at zero = refl
  all_at (suc n) = omega (arith, all_next (counts_at s e r n) (item_kind (r n)) (known (r n)), all_at n)

  pub ends_rise : (i n : ℕ) → i ≤ n → end_of (counts_at s e r i) ≤ end_of (counts_at s e r n)
  ends_rise i zero l = let z : i ≡ 0 = omega arith in rw z (omega arith)
  ends_rise i (suc n) l =
      ⊎_elim
      (λ (q : i ≡ suc n). rw q (omega arith))
      (λ q. let a = ends_rise i n (omega arith) in let b = end_at n in omega arith)
      (same? i (suc n))

  pub buffer_length : (n : ℕ) → length (buffer_at s e r n) ≡ length s
  unfolding buffer_at head_put record_at
  buffer_length zero = fields_length s 0 _ _
  buffer_length (suc n) = fields_length (buffer_at s e r n) (end_of (counts_at s e r n)) _ _ ∙ buffer_length n

  -- ---- later items keep the bits of earlier ones

  pub item_kept : (i n : ℕ) → i ≤ n → (j : ℕ) → j < end_of (counts_at s e r i) → bit_at (buffer_at s e r n) j ≡ bit_at (buffer_at s e r i) j
  unfolding buffer_at record_at
  item_kept i zero l j h = let z : i ≡ 0 = omega arith in rw z
  item_kept i (suc n) l j h =
      ⊎_elim
      (λ (q : i ≡ suc n). rw q)
      (λ q.
      let k = item_kind (r n) in
      let a = ends_rise i n (omega arith) in
      fields_elsewhere (buffer_at s e r n) (end_of (counts_at s e r n)) 0 (record_length (across_of e) k) (record_fields (across_of e) k)
      (record_values (across_of e) k (item_values (r n))) (record_covered e k) j (inl (omega arith))
      ∙ item_kept i n (omega arith) j h)
      (same? i (suc n))

  -- ---- the sheet that is finished

  module _ (n : ℕ) (w : AllWritten s e r n) where
    pub taken_at : (i : ℕ) → i < n → Taken (length s) (counts_at s e r i) (item_kind (r i))
    taken_at i l = taken (length s) (counts_at s e r i) (item_kind (r i)) (w.put i l)

    -- a record that was written lies in the buffer
    pub room_at : (i : ℕ) → i < n → end_of (counts_at s e r (suc i)) ≤ 8 * length s
    room_at i l =
        let a : bytes_for (end_of (counts_at s e r i) + record_length (across_of e) (item_kind (r i))) ≤ length s =
        subst (λ (q : ℕ). bytes_for (end_of (counts_at s e r i) + record_length q (item_kind (r i))) ≤ length s) (across_at i) (taken_at i l).room in
        let b = end_at i in
        omega arith

    head_room : 3 ≤ length s
    unfolding start_of
    head_room = ltb-false (length s) 3 (peel (ltb (length s) 3) (Err NoRoom) _ refl w.started).0

    pub room : bytes_for (end_of (counts_at s e r n)) ≤ length s
    unfolding counts_at
    room = by n (λ i l. room_at i l)
      where
        by : (m : ℕ) → ((i : ℕ) → i < m → end_of (counts_at s e r (suc i)) ≤ 8 * length s) → bytes_for (end_of (counts_at s e r m)) ≤ length s
        by zero h = let g = head_room in omega arith
        by (suc m) h = let a = h m (omega arith) in omega arith

    -- the head can count them
    pub countable : n ≤ most_records
    countable = by n (λ i l. (taken_at i l).countable)
      where
        by : (m : ℕ) → ((i : ℕ) → i < m → all (counts_at s e r i) < most_records) → m ≤ most_records
        by zero h = omega arith
        by (suc m) h = omega (arith, h m (omega arith), all_at m)

    buffer_whole : length (finished (buffer_at s e r n) (counts_at s e r n)) ≡ length s
    unfolding finished
    buffer_whole = put_length _ (end_of (counts_at s e r n)) _ _ ∙ put_length (buffer_at s e r n) 8 16 _ ∙ buffer_length n

    pub sheet_length : length (sheet_at s e r n) ≡ sheet_bytes (counts_at s e r n)
    unfolding sheet_at
    sheet_length =
        length-take-le (sheet_bytes (counts_at s e r n)) (finished (buffer_at s e r n) (counts_at s e r n)) (rw buffer_whole room)

    -- a field before the tail and outside of the head's count is as after the last item
    field_kept : (o v : ℕ) → o + v ≤ end_of (counts_at s e r n) → (o + v ≤ 8) ⊎ (24 ≤ o)
        → field_at (sheet_at s e r n) o v ≡ field_at (buffer_at s e r n) o v
    unfolding sheet_at finished
    field_kept o v l h =
        let c = counts_at s e r n in
        let u = buffer_at s e r n in
        field_take (put_at (put_at u 8 16 (all c)) (end_of c) (padding (end_of c)) 0) (sheet_bytes c) o v (omega arith)
        ∙ put_kept (put_at u 8 16 (all c)) (end_of c) (padding (end_of c)) 0 o v (inl l)
        ∙ put_kept u 8 16 (all c) o v h

    -- every item stands in the sheet as it was put
    pub item_reads : (i : ℕ) → i < n
        → Reads (sheet_at s e r n) (end_of (counts_at s e r i)) (record_fields (across_of e) (item_kind (r i)))
        (record_values (across_of e) (item_kind (r i)) (item_values (r i)))
    unfolding buffer_at record_at
    item_reads i l =
        let k = item_kind (r i) in
        let m = record_length (across_of e) k in
        let c = counts_at s e r i in
        let b = end_at i in
        let q = room_at i l in
        let z = ends_rise (suc i) n l in
        let x : Reads (buffer_at s e r (suc i)) (end_of c) (record_fields (across_of e) k) (record_values (across_of e) k (item_values (r i))) =
        fields_read (buffer_at s e r i) (end_of c) 0 m (record_fields (across_of e) k) (record_values (across_of e) k (item_values (r i)))
        (record_covered e k) (omega (arith, buffer_length i)) in
        reads_same (buffer_at s e r (suc i)) (sheet_at s e r n) (end_of c) 0 m (record_fields (across_of e) k)
        (record_values (across_of e) k (item_values (r i))) (record_covered e k)
        (λ o v _ h.
        field_kept (end_of c + o) v (omega arith) (inr (omega arith))
        ∙ field_same (buffer_at s e r n) (buffer_at s e r (suc i)) (end_of c + o) v (λ j y. item_kept (suc i) n l (end_of c + o + j) (omega arith)))
        x

    -- the head: the edition, and the number of records
    pub edition_read : field_at (sheet_at s e r n) 0 8 ≡ edition_code e
    unfolding buffer_at head_put Reads counts_at
    edition_read =
        let h = fields_read s 0 0 24 _ (edition_code e ∷ 0 ∷ []) head_covered (let g = head_room in omega arith) in
        let z = ends_rise 0 n (omega arith) in
        field_kept 0 8 (omega arith) (inl (omega arith))
        ∙ field_same (buffer_at s e r n) (buffer_at s e r 0) 0 8 (λ j y. item_kept 0 n (omega arith) (0 + j) (omega arith))
        ∙ h.0 ∙ small e
      where
        small : (d : Edition) → edition_code d % 2 ^ 8 ≡ edition_code d
        small First = refl
        small Second = refl

    pub count_read : field_at (sheet_at s e r n) 8 16 ≡ n
    unfolding sheet_at finished
    count_read =
        let c = counts_at s e r n in
        let u = buffer_at s e r n in
        let g = head_room in
        let m = countable in
        let d = all_at n in
        field_take (put_at (put_at u 8 16 (all c)) (end_of c) (padding (end_of c)) 0) (sheet_bytes c) 8 16 (omega arith)
        ∙ put_kept (put_at u 8 16 (all c)) (end_of c) (padding (end_of c)) 0 8 16 (inl (omega arith))
        ∙ put_back u 8 16 (all c) (omega (arith, buffer_length n)) (omega arith)
        ∙ d

    -- the tail: zero bits up to the byte's end
    pub tail_read : field_at (sheet_at s e r n) (end_of (counts_at s e r n)) (padding (end_of (counts_at s e r n))) ≡ 0
    unfolding sheet_at finished
    tail_read =
        let c = counts_at s e r n in
        let t = put_at (buffer_at s e r n) 8 16 (all c) in
        let p = padding (end_of c) in
        let g = room in
        field_take (put_at t (end_of c) p 0) (sheet_bytes c) (end_of c) p (omega arith)
        ∙ put_read t (end_of c) p 0 (omega (arith, put_length (buffer_at s e r n) 8 16 (all c), buffer_length n))
        ∙ zero-mod (2 ^ p)
