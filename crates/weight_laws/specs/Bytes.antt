-- A store answers as its first 3,855 bytes do, 257 records, so a program with a buffer of that size answers for every input. Assumes nothing.
use Rattle.std.specs.Prelude.{ℕ, ◌+◌, ◌*◌, ◌≤◌, ◌<◌, ◌≡◌, true, List, take}
use Rattle.std.proofs.Common.{ap, ⊎_elim, length-take-le, take_all}
use native.Mathlib.Omega.{arith}
use Rattle.std.proofs.Math.ListN.{length}
use borrow.Author.Tests.{le-ltb, lt-ltb}
use Rattle.laws.specs.Bools.{less?}
use Rattle.bits.specs.Field.{field_take}
use Rattle.layout.specs.Verdict.{pick, first_of}
use Rattle.weight_store.specs.Entries.{entry_count, entry_of}
use Rattle.laws.specs.First.{first_index, first_agree, first_le}
use Rattle.weight_store.specs.Refusals.{refusal2_store, refusal7_store, entry_refusal, entry_refused, first_refused}
use Rattle.weights.specs.Answers.{weights_of}

module _ (s : List ℕ) (more : 3855 ≤ length s) where
  abbrev t : List ℕ
  t = take 3855 s

  length_t : length t ≡ 3855
  length_t = length-take-le 3855 s more

  entry_kept : (i : ℕ) → i ≤ 256 → entry_of t i ≡ entry_of s i
  unfolding entry_of
  entry_kept i l =
      rw (
        field_take s 3855 (120 * i + 0) 8 (omega arith),
        field_take s 3855 (120 * i + 8) 32 (omega arith),
        field_take s 3855 (120 * i + 40) 16 (omega arith),
        field_take s 3855 (120 * i + 56) 64 (omega arith),
      )

  refusal_kept : (i : ℕ) → i ≤ 256 → entry_refusal t i ≡ entry_refusal s i
  unfolding entry_refusal refusal2_store
  refusal_kept i l =
      rw (le-ltb (8 * length t) (120 * i + 120) (omega (arith, length_t)), le-ltb (8 * length s) (120 * i + 120) (omega arith), entry_kept i l)

  refused_kept : (i : ℕ) → i ≤ 256 → entry_refused t i ≡ entry_refused s i
  unfolding entry_refused
  refused_kept i l = rw (refusal_kept i l)

  -- the 257th is refused
  refused_last : entry_refused s 256 ≡ true
  unfolding entry_refused entry_refusal first_of pick refusal2_store refusal7_store
  refused_last = rw (le-ltb (8 * length s) 30840 (omega arith))

  enough : 256 < entry_count s
  unfolding entry_count
  enough = omega arith

  enough_t : 256 < entry_count t
  unfolding entry_count
  enough_t = omega (arith, length_t)

  long : (day : ℕ) → weights_of t day ≡ weights_of s day
  unfolding weights_of first_refused
  long day =
      let b : first_index (entry_refused s) (entry_count s) ≤ 256 = first_le (entry_refused s) (entry_count s) 256 enough refused_last in
      let e : first_index (entry_refused t) (entry_count t) ≡ first_index (entry_refused s) (entry_count s) =
      first_agree (entry_refused s) (entry_refused t) (entry_count s) (entry_count t) (omega (arith, enough)) (omega (arith, enough_t))
      (λ k l. refused_kept k (omega arith)) in
      rw (
        e,
        lt-ltb (first_index (entry_refused s) (entry_count s)) (entry_count t) (omega (arith, enough_t)),
        lt-ltb (first_index (entry_refused s) (entry_count s)) (entry_count s) (omega (arith, enough)),
        refusal_kept (first_index (entry_refused s) (entry_count s)) b,
      )

pub first_bytes : (s : List ℕ) (day : ℕ) → weights_of (take 3855 s) day ≡ weights_of s day
first_bytes s day =
    ⊎_elim
    (λ (l : length s < 3855). ap (λ (x : List ℕ). weights_of x day) (take_all 3855 s (omega arith)))
    (λ (l : 3855 ≤ length s). long s l day)
    (less? (length s) 3855)
