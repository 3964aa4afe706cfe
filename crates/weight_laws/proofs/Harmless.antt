-- "A record repeated with an equal value is harmless": added at a store's end it changes no answer, a copy of one of its records in particular.
-- Assumes nothing.
use Prim.Native.Nat.{ℕ, ◌+◌, ◌*◌, ◌<◌}
use Rattle.std.specs.Prelude.{◌≡◌, List, ◌++◌, drop}
use Rattle.std.proofs.Math.Path.{sym}
use Rattle.std.proofs.Common.{◌∙◌, length-take, length-drop, get_or-append-add, get_or-take, get_or-drop}
use Rattle.std.proofs.Math.Bool.{true, false}
use Rattle.std.proofs.Math.Logic.{⊎_elim}
use native.Mathlib.Omega.{arith}
use Rattle.std.proofs.Math.Dec.{ltb}
use Rattle.std.proofs.Math.ListN.{length}
use borrow.Author.Tests.{lt-ltb, ltb-true}
use Rattle.laws.specs.Bools.{which, same?}
use Rattle.laws.specs.Folds.{any}
use Rattle.weight_store.specs.Entries.{entry_count, entry_of}
use Rattle.laws.specs.First.{first_index, first_none}
use Rattle.weight_store.specs.Refusals.{entry_refused, first_refused, disagrees_earlier, first_disagreeing}
use Rattle.weights.specs.Answers.{weights_of, passed_answer}
use Rattle.weight_laws.specs.Same.{SameEntry, same_entry, same_entry_sym}
use Rattle.weight_laws.proofs.Stores.{looked_up, same_records}
use Rattle.weight_laws.specs.Copies.{record_bytes, with_copy, entry_bytes}
use Rattle.weight_laws.proofs.Copies as copies

module _ (s r : List ℕ) (n i : ℕ) (whole : length s ≡ 15 * n) (few : n < 256) (l : i < n) (one : length r ≡ 15)
    (same : SameEntry (entry_of (s ++ r) n) (entry_of s i)) where
  abbrev t : List ℕ
  t = s ++ r

  module _ (passed : any (entry_refused s) n ≡ false) where
    -- two records disagree: the same in both
    disagree_first : (day : ℕ) → ltb (first_disagreeing n (entry_of s)) n ≡ true → weights_of t day ≡ weights_of s day
    unfolding passed_answer first_disagreeing
    disagree_first day v =
        let p = disagrees_earlier (entry_of s) in
        let e : first_index (disagrees_earlier (entry_of t)) (n + 1) ≡ first_index p n = (copies.first_kept s r n i whole few l one same) p (disagrees_earlier (entry_of t)) (copies.disagrees_kept s r n i whole few l one same) v in
        let m = ltb-true (first_index p n) n v in
        let both : passed_answer (entry_count t) (entry_of t) day ≡ passed_answer (entry_count s) (entry_of s) day =
        rw ((copies.records_t s r n i whole few l one same), (copies.records_s s r n i whole few l one same), e, lt-ltb (first_index p n) (n + 1) (omega arith), v) in
        looked_up t day (rw (copies.records_t s r n i whole few l one same) (copies.passed_t s r n i whole few l one same passed)) ∙ both ∙ sym (looked_up s day (rw (copies.records_s s r n i whole few l one same) passed))

    accepted_both : (day : ℕ) → any (disagrees_earlier (entry_of s)) n ≡ false → weights_of t day ≡ weights_of s day
    accepted_both day agreed =
        same_records s t
        (record { passed = rw (copies.records_s s r n i whole few l one same) passed; agreed = rw (copies.records_s s r n i whole few l one same) agreed })
        (rw (copies.records_t s r n i whole few l one same) (copies.length_t s r n i whole few l one same)) (rw (copies.records_t s r n i whole few l one same) (omega arith))
        (record { at = λ j lj. let m : j < n = rw (copies.records_s s r n i whole few l one same) at lj in (j, rw (copies.records_t s r n i whole few l one same) (omega arith), same_entry ((copies.kept s r n i whole few l one same) j m)) })
        (record {
          at = λ j lj.
              let m : j < n + 1 = rw (copies.records_t s r n i whole few l one same) at lj in
              ⊎_elim
              (λ (q : j ≡ n). (i, rw (copies.records_s s r n i whole few l one same) l, same_entry_sym (rw q same)))
              (λ (q : j ≡ n → ⊥). (j, rw (copies.records_s s r n i whole few l one same) (omega arith), same_entry (sym ((copies.kept s r n i whole few l one same) j (omega arith)))))
              (same? j n);
        })
        day

  pub repeated_harmless : (day : ℕ) → weights_of t day ≡ weights_of s day
  unfolding first_refused first_disagreeing
  repeated_harmless day =
      ⊎_elim
      (λ (u : ltb (first_refused s) n ≡ true). (copies.refused_first s r n i whole few l one same) day u)
      (λ (u : ltb (first_refused s) n ≡ false).
      let passed : any (entry_refused s) n ≡ false = first_none (entry_refused s) n (rw (copies.records_s s r n i whole few l one same) at u) in
      ⊎_elim
      (λ (v : ltb (first_disagreeing n (entry_of s)) n ≡ true). disagree_first passed day v)
      (λ (v : ltb (first_disagreeing n (entry_of s)) n ≡ false). accepted_both passed day (first_none (disagrees_earlier (entry_of s)) n v))
      (which (ltb (first_disagreeing n (entry_of s)) n)))
      (which (ltb (first_refused s) n))

-- a copy of record i
pub copy_harmless : (s : List ℕ) (n i : ℕ) → length s ≡ 15 * n → n < 256 → i < n → (day : ℕ) → weights_of (with_copy s i) day ≡ weights_of s day
copy_harmless s n i whole few l day =
    let bytes : length (record_bytes s i) ≡ 15 = simp (length-take, length-drop) (omega arith) in
    repeated_harmless s (record_bytes s i) n i whole few l bytes
    (same_entry (entry_bytes s (with_copy s i) i n (λ k lk.
    rw (← whole) (get_or-append-add s (record_bytes s i) k 0) ∙ get_or-take 15 (drop (15 * i) s) k 0 lk ∙ get_or-drop (15 * i) s k 0)))
    day
