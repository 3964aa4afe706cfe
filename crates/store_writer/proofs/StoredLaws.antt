-- A record of the store that was put is read back, the others are kept, and the first n records are a store of n records, each refused by its own
-- values alone. Assumes nothing.
use Rattle.std.specs.Prelude.{ℕ, ◌+◌, ◌*◌, ◌^◌, ◌≤◌, ◌<◌, ◌≡◌, List, [], ◌∷◌, ◌≢◌, take}
use Rattle.std.proofs.Common.{◌∙◌, arith}
use Rattle.std.proofs.Math.Logic.{inl, inr, ⊎_elim}
use Rattle.std.proofs.Math.Nat.{mod-eq_of_lt}
use Rattle.std.proofs.Math.ListN.{length}
use Rattle.std.proofs.Math.Seq.{length-take-le}
use borrow.Author.Tests.{le-ltb, lt-leb}
use Rattle.laws.specs.Bools.{less?}
use Rattle.bits.specs.Field.{field_at, field_take}
use Rattle.put.specs.PutLaws.{field_same}
use Rattle.weight_store.specs.Entries.{Entry, entry_length, entry_of, entry_count, entry_covered}
use Rattle.layout.specs.Verdict.{pick, first_of}
use Rattle.weight_store.specs.Refusals.{refusal2_store, refusal7_store, refusal8_store, refusal11_store, entry_refusal}
use Rattle.encoder.specs.EncodedLaws.{Reads, fields_length}
use Rattle.encoder.proofs.FieldLaws.{fields_read, fields_elsewhere}
use Rattle.store_writer.specs.Stored.{entry_fields, entry_put}

-- each number can be held by its field
pub record Fits (x : Entry) : Type 0 where
  pub setting : x.setting < 2 ^ 8
  pub start : x.start < 2 ^ 32
  pub issue : x.issue < 2 ^ 16
  pub value : x.value < 2 ^ 64

module _ (s : List ℕ) (i : ℕ) (x : Entry) where
  pub entry_length_lem : length (entry_put s i x) ≡ length s
  unfolding entry_put
  entry_length_lem = fields_length s (entry_length * i) entry_fields _

  -- the record that was put is read back
  pub entry_back : 15 * i + 15 ≤ length s → Fits x → entry_of (entry_put s i x) i ≡ x
  unfolding entry_put entry_of Reads
  entry_back r f =
      let h = fields_read s (entry_length * i) 0 120 entry_fields (x.setting ∷ x.start ∷ x.issue ∷ x.value ∷ []) entry_covered (omega arith) in
      λ k. record {
        setting = (h.0 ∙ mod-eq_of_lt f.setting) k;
        start = (h.1.0 ∙ mod-eq_of_lt f.start) k;
        issue = (h.1.1.0 ∙ mod-eq_of_lt f.issue) k;
        value = (h.1.1.1.0 ∙ mod-eq_of_lt f.value) k;
      }

  field_kept : (j o v : ℕ) → j ≢ i → o + v ≤ 120 → field_at (entry_put s i x) (entry_length * j + o) v ≡ field_at s (entry_length * j + o) v
  unfolding entry_put
  field_kept j o v n l =
      field_same (entry_put s i x) s (entry_length * j + o) v
      (λ k m. fields_elsewhere s (entry_length * i) 0 120 entry_fields _ entry_covered (entry_length * j + o + k)
      (⊎_elim (λ (q : j < i). inl (omega arith)) (λ (q : i ≤ j). inr (omega (arith, other q))) (less? j i)))
    where
      other : i ≤ j → i < j
      other q = ⊎_elim (λ (a : i < j). a) (λ (a : j ≤ i). absurd (n (omega arith))) (less? i j)

  -- and every other is kept
  pub entry_kept : (j : ℕ) → j ≢ i → entry_of (entry_put s i x) j ≡ entry_of s j
  unfolding entry_of
  entry_kept j n =
      λ k. record {
        setting = field_kept j 0 8 n (omega arith) k;
        start = field_kept j 8 32 n (omega arith) k;
        issue = field_kept j 40 16 n (omega arith) k;
        value = field_kept j 56 64 n (omega arith) k;
      }

-- the first n records of a buffer are a store of n records
pub stored_count : (s : List ℕ) (n : ℕ) → 15 * n ≤ length s → entry_count (take (15 * n) s) ≡ n
unfolding entry_count
stored_count s n h = omega (arith, length-take-le (15 * n) s h)

module _ (s : List ℕ) (n i : ℕ) (h : 15 * n ≤ length s) (l : i < n) where
  -- each is read there as in the buffer
  pub stored_read : entry_of (take (15 * n) s) i ≡ entry_of s i
  unfolding entry_of
  stored_read =
      λ k. record {
        setting = field_take s (15 * n) (entry_length * i + 0) 8 (omega arith) k;
        start = field_take s (15 * n) (entry_length * i + 8) 32 (omega arith) k;
        issue = field_take s (15 * n) (entry_length * i + 40) 16 (omega arith) k;
        value = field_take s (15 * n) (entry_length * i + 56) 64 (omega arith) k;
      }

  -- and of the refusals of one record only those of its values are left, 8 and 11
  pub stored_refusal : n ≤ 256 → entry_refusal (take (15 * n) s) i
      ≡ first_of ((8, refusal8_store (entry_of s i)) ∷ (11, refusal11_store (entry_of s i)) ∷ [])
  unfolding entry_refusal first_of pick refusal2_store refusal7_store
  stored_refusal m =
      let q = length-take-le (15 * n) s h in
      rw (stored_read, le-ltb (8 * length (take (15 * n) s)) (entry_length * i + entry_length) (omega arith), lt-leb 256 i (omega arith))
