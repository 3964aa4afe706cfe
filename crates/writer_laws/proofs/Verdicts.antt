-- How the reader reads what a writer finished. Of each record kind and length are right, it is in order and not one too many, and the tail is as it
-- must be: so of document 01's numbers only those of a record's body, 8 to 14, can be given, and the sheet is accepted exactly where no condition of
-- these holds. Assumes nothing.
use Rattle.std.specs.Prelude.{Ok, Result}
use Rattle.layout.specs.declared.Refusal.{Refusal}
use Rattle.layout.specs.Refused.{refused}
use Prim.Native.Nat.{ℕ, zero, suc, ◌+◌, ◌-◌, ◌*◌, ◌%◌, ◌^◌, ◌≤◌, ◌<◌}
use Rattle.std.proofs.Math.Path.{◌≡◌, refl, ap, subst}
use Rattle.std.proofs.Common.{sym, ◌∙◌}
use Rattle.std.specs.Prelude.{true, false, not, ◌||◌, cond, List, ◌↔◌}
use Rattle.std.proofs.Math.Logic.{⊎_elim}
use Rattle.std.proofs.Math.Nat.{add-zero}
use native.Mathlib.Omega.{arith}
use Rattle.std.proofs.Math.Dec.{eqb}
use Rattle.std.proofs.Math.ListN.{length}
use borrow.Author.Tests.{eq-eqb, ne_eqb, lt-ltb, le-ltb}
use Rattle.laws.specs.Bools.{same?}
use Rattle.components.specs.declared.Kind.{Kind}
use Rattle.components.specs.declared.Kind.TheVariants.{Policy, Stop, Line, Car, Aboard, Waiting, Demand, Closed, Unknown}
use Rattle.components.specs.Codes.{kind_of, kind_code}
use Rattle.layout.specs.declared.Counts.{Counts}
use Rattle.layout.specs.Offsets.{none, end_of, body_length, across_in}
use Rattle.layout.specs.Records.{from}
use Rattle.layout.specs.Refusals.{edition, record_count, kind_at, length_at, refusal2_head, refusal3, refusal6_empty, refusal2, refusal5}
use Rattle.layout.specs.Refusals.{refusal6, tail_fits, refusal16}
use Rattle.layout.specs.Verdict.{pick, first_of, given, head_rules, rules_of, body_refusal, record_refusal, tail_verdict, records_verdict, verdict}
use Rattle.layout.specs.Readings.{refused≢accepted}
use Rattle.encoder.specs.EncodedLaws.{Reads}
use Rattle.writer.specs.declared.Edition.{Edition}
use Rattle.writer.specs.declared.Edition.TheVariants.{First, Second}
use Rattle.writer.specs.Puts.{padding, edition_code}
use Rattle.writer_laws.specs.Run.{Item, item_kind, across_of, counts_at, AllWritten, sheet_at}
use Rattle.writer_laws.proofs.RunLaws.{known, across_at, end_at, ends_rise, taken_at, item_reads, sheet_length, edition_read}
use Rattle.writer_laws.proofs.RunLaws.{count_read, tail_read}

-- ---- numbers that their fields can hold

kind_small : (k : Kind) → kind_code k % 2 ^ 6 ≡ kind_code k
kind_small Policy = refl
kind_small Stop = refl
kind_small Line = refl
kind_small Car = refl
kind_small Aboard = refl
kind_small Waiting = refl
kind_small Demand = refl
kind_small Closed = refl
kind_small Unknown = refl

body_small : (e : Edition) (k : Kind) → (body_length k + across_in (across_of e) k) % 2 ^ 16 ≡ body_length k + across_in (across_of e) k
body_small First Policy = refl
body_small First Stop = refl
body_small First Line = refl
body_small First Car = refl
body_small First Aboard = refl
body_small First Waiting = refl
body_small First Demand = refl
body_small First Closed = refl
body_small First Unknown = refl
body_small Second Policy = refl
body_small Second Stop = refl
body_small Second Line = refl
body_small Second Car = refl
body_small Second Aboard = refl
body_small Second Waiting = refl
body_small Second Demand = refl
body_small Second Closed = refl
body_small Second Unknown = refl

-- the kind of a kind's code
pub kind_back : (k : Kind) → kind_of (kind_code k) ≡ k
unfolding kind_of
kind_back Policy = refl
kind_back Stop = refl
kind_back Line = refl
kind_back Car = refl
kind_back Aboard = refl
kind_back Waiting = refl
kind_back Demand = refl
kind_back Closed = refl
kind_back Unknown = refl

module _ (s : List ℕ) (e : Edition) (r : ℕ → Item) (n : ℕ) (w : AllWritten s e r n) where
  -- ---- each record

  module _ (i : ℕ) (l : i < n) where
    pub kind_read : kind_at (sheet_at s e r n) (counts_at s e r i) ≡ kind_code (item_kind (r i))
    unfolding Reads
    kind_read = (item_reads s e r n w i l).0 ∙ kind_small (item_kind (r i))

    pub length_read : length_at (sheet_at s e r n) (counts_at s e r i) ≡ body_length (item_kind (r i)) + across_in (across_of e) (item_kind (r i))
    unfolding Reads
    length_read = (item_reads s e r n w i l).1.0 ∙ body_small e (item_kind (r i))

    pub kind_is : kind_of (kind_at (sheet_at s e r n) (counts_at s e r i)) ≡ item_kind (r i)
    kind_is = ap kind_of kind_read ∙ kind_back (item_kind (r i))

    not_2 : refusal2 (sheet_at s e r n) (counts_at s e r i) ≡ false
    unfolding refusal2
    not_2 =
        let a = end_at s e r i in
        let b = ends_rise s e r (suc i) n l in
        let c = sheet_length s e r n w in
        le-ltb (8 * length (sheet_at s e r n)) _ (omega (arith, length_read))

    not_5 : refusal5 (counts_at s e r i) (item_kind (r i)) (length_at (sheet_at s e r n) (counts_at s e r i)) ≡ false
    unfolding refusal5
    not_5 =
        let k = item_kind (r i) in
        let q = length_read ∙ ap (λ (x : ℕ). body_length k + across_in x k) (sym (across_at s e r i)) in
        rw (eq-eqb _ _ q)

    not_6 : refusal6 (counts_at s e r i) (kind_at (sheet_at s e r n) (counts_at s e r i)) ≡ false
    not_6 = rw kind_read (taken_at s e r n w i l).in_order

    -- the first number of the record is its body's
    pub record_refusal_lem : record_refusal (sheet_at s e r n) (counts_at s e r i)
        ≡ body_refusal (sheet_at s e r n) (counts_at s e r i) (item_kind (r i)) (from (sheet_at s e r n) (end_of (counts_at s e r i)))
    unfolding record_refusal first_of pick
    record_refusal_lem =
        ap (λ (k : Kind). first_of (rules_of (sheet_at s e r n) (counts_at s e r i) k)) kind_is
        ∙ rw (not_2, known (r i), not_5, not_6, (taken_at s e r n w i l).not_full)

  -- ---- head and tail

  pub edition_is : edition (sheet_at s e r n) ≡ edition_code e
  edition_is = edition_read s e r n w

  head_clean : first_of (head_rules (sheet_at s e r n)) ≡ 0
  unfolding first_of pick refusal2_head refusal3
  head_clean =
      let c = sheet_length s e r n w in
      rw (le-ltb (8 * length (sheet_at s e r n)) 24 (omega arith), edition_is) (by e)
    where
      by : (d : Edition) → ◌≡◌ {A = ℕ} (cond (not (eqb (edition_code d) 1 || eqb (edition_code d) 2)) 3 0) 0
      by First = refl
      by Second = refl

  pub count_is : record_count (sheet_at s e r n) ≡ n
  count_is = count_read s e r n w

  tail_clean : tail_fits (sheet_at s e r n) (counts_at s e r n) ≡ true
  unfolding tail_fits
  tail_clean =
      let t = sheet_at s e r n in
      let c = counts_at s e r n in
      let m = sheet_length s e r n w in
      let p : 8 * length t - end_of c ≡ padding (end_of c) = omega arith in
      rw (le-ltb (8 * length t) (end_of c) (omega arith), p, lt-ltb (padding (end_of c)) 8 (omega arith), add-zero (end_of c), tail_read s e r n w)

  tail_accepts : 0 < n → tail_verdict (sheet_at s e r n) (counts_at s e r n) ≡ Ok (counts_at s e r n)
  unfolding tail_verdict first_of pick refusal6_empty refusal16
  tail_accepts h = rw (count_is, ne_eqb n 0 (λ z. omega arith), tail_clean)

  -- ---- the verdict

  -- what the bodies of the m records after i others say: the first number found, at the bit where its record starts
  unfoldable pub bodies_verdict : ℕ → ℕ → Result Counts Refusal
  bodies_verdict zero i = Ok (counts_at s e r i)
  bodies_verdict (suc m) i =
      given (body_refusal (sheet_at s e r n) (counts_at s e r i) (item_kind (r i)) (from (sheet_at s e r n) (end_of (counts_at s e r i))))
      (end_of (counts_at s e r i)) (bodies_verdict m (suc i))

  records_verdict_lem : 0 < n → (m i : ℕ) → i + m ≡ n → records_verdict (sheet_at s e r n) m (counts_at s e r i) ≡ bodies_verdict m i
  unfolding records_verdict bodies_verdict counts_at
  records_verdict_lem h zero i q = let z : i ≡ n = omega arith in rw z (tail_accepts h)
  records_verdict_lem h (suc m) i q =
      let l : i < n = omega arith in
      rw (record_refusal_lem i l, kind_is i l, records_verdict_lem h m (suc i) (omega arith))

  -- the verdict on what is finished is that of the bodies
  pub verdict_is : 0 < n → verdict (sheet_at s e r n) ≡ bodies_verdict n 0
  unfolding verdict counts_at
  verdict_is h = rw (head_clean, count_is, edition_is) (records_verdict_lem h n 0 (omega arith))

  -- no condition of a record's body holds, of each of the first n
  pub record NoBody : Type 0 where
    pub none : (i : ℕ) → i < n
        → body_refusal (sheet_at s e r n) (counts_at s e r i) (item_kind (r i)) (from (sheet_at s e r n) (end_of (counts_at s e r i))) ≡ 0

  given_none : (m at : ℕ) (rest : Result Counts Refusal) (c : Counts) → given m at rest ≡ Ok c → (m ≡ 0) × (rest ≡ Ok c)
  given_none m at rest c h =
      ⊎_elim
      (λ (z : m ≡ 0). (z, subst (λ b. cond b rest (refused m at) ≡ Ok c) (eq-eqb m 0 z) h))
      (λ z. absurd (refused≢accepted (subst (λ b. cond b rest (refused m at) ≡ Ok c) (ne_eqb m 0 z) h)))
      (same? m 0)

  all_none : (c : Counts) (m i : ℕ) → i + m ≡ n → bodies_verdict m i ≡ Ok c → (j : ℕ) → i ≤ j → j < n
      → body_refusal (sheet_at s e r n) (counts_at s e r j) (item_kind (r j)) (from (sheet_at s e r n) (end_of (counts_at s e r j))) ≡ 0
  unfolding bodies_verdict
  all_none c zero i q h j a b = absurd (omega arith)
  all_none c (suc m) i q h j a b =
      let g = given_none _ (end_of (counts_at s e r i)) (bodies_verdict m (suc i)) c h in
      ⊎_elim
      (λ (z : i ≡ j). subst
      (λ x. body_refusal (sheet_at s e r n) (counts_at s e r x) (item_kind (r x)) (from (sheet_at s e r n) (end_of (counts_at s e r x))) ≡ 0) z g.0)
      (λ z. all_none c m (suc i) (omega arith) g.1 j (omega arith) b)
      (same? i j)

  none_all : NoBody → (m i : ℕ) → i + m ≡ n → bodies_verdict m i ≡ Ok (counts_at s e r n)
  unfolding bodies_verdict
  none_all h zero i q = let z : i ≡ n = omega arith in rw z
  none_all h (suc m) i q = rw (h.none i (omega arith)) (none_all h m (suc i) (omega arith))

  -- it is accepted, with the counts of what was put, exactly where no condition of a body holds
  pub accepted_is : 0 < n → (verdict (sheet_at s e r n) ≡ Ok (counts_at s e r n)) ↔ NoBody
  accepted_is h = (
    λ v. record { none = λ i l. all_none (counts_at s e r n) n 0 (omega arith) (sym (verdict_is h) ∙ v) i (omega arith) l },
    λ x. verdict_is h ∙ none_all x n 0 (omega arith),
  )

-- without a record: "24 for an empty count"
pub empty_is : (s : List ℕ) (e : Edition) (r : ℕ → Item) (w : AllWritten s e r 0) → verdict (sheet_at s e r 0) ≡ refused 6 24
unfolding verdict counts_at records_verdict tail_verdict first_of pick refusal6_empty
empty_is s e r w = rw (head_clean s e r 0 w, count_is s e r 0 w, edition_is s e r 0 w) (by e)
  where
    by : (d : Edition) → records_verdict (sheet_at s e r 0) 0 (none (across_of d)) ≡ refused 6 24
    by First = rw (count_is s e r 0 w)
    by Second = rw (count_is s e r 0 w)
