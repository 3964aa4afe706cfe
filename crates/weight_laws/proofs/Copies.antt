-- One record more at a store's end, like one of its own, which changes none of the others and passes ("A record repeated with an equal value is
-- harmless"). Assumes nothing.
use Prim.Native.Nat.{ℕ, ◌+◌, ◌*◌, ◌<◌}
use Rattle.std.specs.Prelude.{◌≡◌, Bool, List, ◌++◌}
use Rattle.std.proofs.Common.{◌∙◌, length-append}
use Rattle.std.proofs.Math.Bool.{true, false}
use Rattle.std.proofs.Math.Logic.{⊎_elim}
use native.Mathlib.Omega.{arith}
use Rattle.std.proofs.Math.Dec.{ltb}
use Rattle.std.proofs.Math.ListN.{length, get_or-append}
use borrow.Author.Tests.{le-ltb, lt-ltb, ltb-true}
use Rattle.laws.specs.Bools.{same?}
use Rattle.laws.specs.Folds.{any, any_none, none_any, any_cong}
use Rattle.weight_store.specs.Entries.{entry_count, entry_of}
use Rattle.laws.specs.First.{first_index, first_agree}
use Rattle.weight_store.specs.Refusals.{refusal2_store, entry_refusal, entry_refused, first_refused, disagree, disagrees_earlier}
use Rattle.weights.specs.Answers.{weights_of}
use Rattle.weight_laws.specs.Same.{SameEntry}
use Rattle.weight_laws.proofs.Stores.{passes_too}
use Rattle.weight_laws.specs.Copies.{entry_bytes}

-- ---- one record more, which changes none of the others

module _ (s r : List ℕ) (n i : ℕ) (whole : length s ≡ 15 * n) (few : n < 256) (l : i < n) (one : length r ≡ 15)
    (same : SameEntry (entry_of (s ++ r) n) (entry_of s i)) where
  abbrev pub t : List ℕ
  t = s ++ r

  pub length_t : length t ≡ 15 * (n + 1)
  length_t = simp length-append (omega arith)

  pub records_s : entry_count s ≡ n
  unfolding entry_count
  records_s = omega arith

  pub records_t : entry_count t ≡ n + 1
  unfolding entry_count
  records_t = omega (arith, length_t)

  pub kept : (j : ℕ) → j < n → entry_of t j ≡ entry_of s j
  kept j lj = entry_bytes s t j j (λ k lk. get_or-append s r 0 (15 * j + k) (omega arith))

  pub refusal_kept : (j : ℕ) → j < n → entry_refusal t j ≡ entry_refusal s j
  unfolding entry_refusal refusal2_store
  refusal_kept j lj =
      rw (le-ltb (8 * length t) (120 * j + 120) (omega (arith, length_t)), le-ltb (8 * length s) (120 * j + 120) (omega arith), kept j lj)

  pub refused_kept : (j : ℕ) → j < n → entry_refused t j ≡ entry_refused s j
  unfolding entry_refused
  refused_kept j lj = rw (refusal_kept j lj)

  pub disagrees_kept : (j : ℕ) → j < n → disagrees_earlier (entry_of t) j ≡ disagrees_earlier (entry_of s) j
  unfolding disagrees_earlier
  disagrees_kept j lj =
      any_cong (λ k. disagree (entry_of t k) (entry_of t j)) (λ k. disagree (entry_of s k) (entry_of s j)) j
      (λ k lk. rw (kept k (omega arith), kept j lj))

  pub first_kept : (p q : ℕ → Bool) → ((j : ℕ) → j < n → q j ≡ p j) → ltb (first_index p n) n ≡ true → first_index q (n + 1) ≡ first_index p n
  first_kept p q h u = let m = ltb-true (first_index p n) n u in first_agree p q n (n + 1) m (omega arith) (λ k lk. h k (omega arith))

  -- a record is refused: the same in both
  pub refused_first : (day : ℕ) → ltb (first_refused s) n ≡ true → weights_of t day ≡ weights_of s day
  unfolding weights_of first_refused
  refused_first day u =
      let u' : ltb (first_index (entry_refused s) n) n ≡ true = rw records_s at u in
      let e : first_index (entry_refused t) (n + 1) ≡ first_index (entry_refused s) n = first_kept (entry_refused s) (entry_refused t) refused_kept u' in
      let m = ltb-true (first_index (entry_refused s) n) n u' in
      rw (records_t, records_s, e, lt-ltb (first_index (entry_refused s) n) (n + 1) (omega arith), u', refusal_kept (first_index (entry_refused s) n) m)

  module _ (passed : any (entry_refused s) n ≡ false) where
    pub passed_t : any (entry_refused t) (n + 1) ≡ false
    passed_t =
        none_any (entry_refused t) (n + 1) (λ j lj.
        ⊎_elim
        (λ (q : j ≡ n).
        rw q (passes_too s t i n (any_none (entry_refused s) n passed i l) same (omega (arith, length_t)) (omega arith)))
        (λ q. refused_kept j (omega arith) ∙ any_none (entry_refused s) n passed j (omega arith))
        (same? j n))
