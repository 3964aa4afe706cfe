-- What a record that passes is. Assumes nothing.
use Rattle.std.specs.Prelude.{ℕ, ◌+◌, ◌*◌, ◌/◌, ◌≤◌, ◌<◌, ◌≡◌, refl, Bool, true, false, List, [], ◌∷◌, ◌≢◌, ltb, length}
use Rattle.std.proofs.Common.{⊎_elim, arith, eqb-true, ltb-true, ltb-false, leb-false, lt-ltb, le-ltb}
use Rattle.std.specs.Float.Ieee.{of_bits}
use Rattle.std.specs.Float.{binary64}
use Rattle.std.proofs.lemmas.Bool.{lt-leb, not-false}
use Rattle.laws.specs.Bools.{same_test, not_both, same?, less?}
use Rattle.laws.specs.Folds.{any, any_none}
use Rattle.laws.specs.First.{first_index, first_is}
use Rattle.fp.specs.Ranges.{is_mass}
use Rattle.layout.specs.Verdict.{Rule, pick, first_of}
use Rattle.weight_store.specs.Entries.{entry_count, entry_of}
use Rattle.weight_store.specs.Refusals.{refusal2_store, refusal7_store, refusal8_store, refusal11_store, entry_refusal, entry_refused, first_refused}

-- cut short, in bytes
pub short_bytes : (s : List ℕ) (i : ℕ) → ltb (length s) (15 * i + 15) ≡ refusal2_store s i
unfolding refusal2_store
short_bytes s i =
    same_test _ _
    (λ h. let l = ltb-true (length s) (15 * i + 15) h in lt-ltb (8 * length s) (120 * i + 120) (omega arith))
    (λ h. let l = ltb-true (8 * length s) (120 * i + 120) h in lt-ltb (length s) (15 * i + 15) (omega arith))

pub record PassedEntry (s : List ℕ) (i : ℕ) : Type 0 where
  pub whole : 15 * i + 15 ≤ length s
  pub few : i ≤ 255
  pub slot : (entry_of s i).setting ≤ 5
  pub inside : is_mass (of_bits binary64 (entry_of s i).value) ≡ true

-- none of the rules' numbers
none_holds : (a b c d : Bool) → first_of ((2, a) ∷ (7, b) ∷ (8, c) ∷ (11, d) ∷ []) ≡ 0 → (a ≡ false) × (b ≡ false) × (c ≡ false) × (d ≡ false)
unfolding first_of pick
none_holds true b c d h = absurd (omega arith)
none_holds false true c d h = absurd (omega arith)
none_holds false false true d h = absurd (omega arith)
none_holds false false false true h = absurd (omega arith)
none_holds false false false false h = (refl, refl, refl, refl)

pub passed : (s : List ℕ) (i : ℕ) → entry_refused s i ≡ false → PassedEntry s i
unfolding entry_refused entry_refusal refusal2_store refusal7_store refusal8_store refusal11_store
passed s i h =
    let (a, b, c, d) =
    none_holds (refusal2_store s i) (refusal7_store i) (refusal8_store (entry_of s i)) (refusal11_store (entry_of s i)) (eqb-true _ _ (not-false _ h)) in
    record {
      whole = omega (arith, ltb-false (8 * length s) (120 * i + 120) a);
      few = omega (arith, leb-false 256 i b);
      slot = ltb-false 5 (entry_of s i).setting c;
      inside = not-false _ d;
    }

pub is_passed : (s : List ℕ) (i : ℕ) → PassedEntry s i → entry_refused s i ≡ false
unfolding entry_refused entry_refusal first_of pick refusal2_store refusal7_store refusal8_store refusal11_store
is_passed s i h =
    rw (
      le-ltb (8 * length s) (120 * i + 120) (omega (arith, h.whole)),
      lt-leb 256 i (omega (arith, h.few)),
      le-ltb 5 (entry_of s i).setting h.slot,
      h.inside,
    )

-- no more than 256 pass before the first that is refused
pub refused_few : (s : List ℕ) → first_refused s ≤ 256
unfolding first_refused
refused_few s =
    let n = first_index (entry_refused s) (entry_count s) in
    ⊎_elim
    (λ (l : 256 < n).
    absurd (omega (arith, (passed s 256 (any_none (entry_refused s) n (first_is (entry_refused s) (entry_count s)).none_before 256 l)).few)))
    (λ (l : n ≤ 256). l)
    (less? 256 n)

-- where the first that is refused is past the last, all pass
pub refused_none : (s : List ℕ) (n : ℕ) → n ≡ first_refused s → ltb n (entry_count s) ≡ false → entry_count s ≡ n
unfolding first_refused
refused_none s n e h = let w = (first_is (entry_refused s) (entry_count s)).within in omega (arith, ltb-false n (entry_count s) h)

-- there are no more of them than records, which 15 bytes each hold
pub refused_within : (s : List ℕ) (n : ℕ) → length s ≤ 15 * n → first_refused s ≤ n
unfolding first_refused entry_count
refused_within s n l = omega (arith, (first_is (entry_refused s) ((8 * length s + 119) / 120)).within)

-- a record that passes after others that do stands before it
pub passed_before : (s : List ℕ) (i : ℕ) → i < entry_count s → any (entry_refused s) i ≡ false → entry_refused s i ≡ false → i < first_refused s
unfolding first_refused
passed_before s i l none out =
    let n = first_index (entry_refused s) (entry_count s) in
    ⊎_elim
    (λ (q : i < n). q)
    (λ (q : n ≤ i).
    let stops = (first_is (entry_refused s) (entry_count s)).passes (omega arith) in
    ⊎_elim
    (λ (e : n ≡ i). absurd (not_both (rw e at stops) out))
    (λ (e : n ≢ i). absurd (not_both stops (any_none (entry_refused s) i none n (omega arith))))
    (same? n i))
    (less? i n)
