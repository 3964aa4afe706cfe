-- How a bench of seven kinds reads: as this one does, or with 4 at a record of kind 8. Assumes nothing.
use Rattle.std.specs.Prelude.{Ok, Result}
use Rattle.layout.specs.declared.Refusal.{Refusal}
use Prim.Native.Nat.{ℕ, zero, suc, ◌+◌, ◌≤◌}
use Rattle.std.specs.Prelude.{◌≡◌, Bool, cond, List, ◌⊎◌, ◌≢◌, eqb}
use Rattle.std.proofs.Math.Path.{refl}
use Rattle.std.proofs.Common.{sym, ap, ◌∙◌, arith, eq-eqb, ne_eqb}
use Rattle.std.proofs.Math.Bool.{true, false}
use Rattle.std.proofs.Math.Logic.{inl, inr, ⊎_elim}
use Rattle.laws.specs.Bools.{same?, which}
use Rattle.components.specs.declared.Kind.TheVariants.{Unknown}
use Rattle.components.specs.Codes.{kind_of, by_kind}
use Rattle.layout.specs.declared.Counts.{Counts}
use Rattle.layout.specs.Offsets.{next, end_of}
use Rattle.layout.specs.Refusals.{record_count, kind_at, refusal2}
use Rattle.layout.specs.Readings.{refused≢accepted, same_counts}
use Rattle.layout.specs.Verdict.{head_rules, tail_rules, rules_of, pick, first_of, given, record_refusal, tail_verdict, records_verdict, at_first, verdict}
use Rattle.closed_landings.specs.SevenKinds.{kind_of_seven, refusal_of_seven, records_of_seven, verdict_of_seven, FourAtEight}

-- ---- laws

other_kind : (n : ℕ) → n ≢ 8 → kind_of_seven n ≡ kind_of n
unfolding kind_of_seven
other_kind n h = rw (ne_eqb n 8 h)

eighth_kind : (n : ℕ) → n ≡ 8 → kind_of_seven n ≡ Unknown
unfolding kind_of_seven
eighth_kind n h = rw (eq-eqb n 8 h)

module _ (s : List ℕ) where
  -- as now, or 4 at a record of kind 8
  abbrev As : Result Counts Refusal → Result Counts Refusal → Type 0
  As v w = (v ≡ w) ⊎ FourAtEight s v

  -- at a place where both find the same
  same_place : (number at : ℕ) (v w : Result Counts Refusal) → As v w → As (given number at v) (given number at w)
  same_place number at v w (inl e) = inl (ap (given number at) e)
  same_place number at v w (inr h) =
      ⊎_elim
      (λ (t : eqb number 0 ≡ true). inr (rw t h))
      (λ (t : eqb number 0 ≡ false). inl (rw t))
      (which (eqb number 0))

  at_eight : (c : Counts) (v w : Result Counts Refusal) → kind_at s c ≡ 8 → As (given (refusal_of_seven s c) (end_of c) v) (given (record_refusal s c) (end_of c) w)
  unfolding refusal_of_seven record_refusal first_of pick
  at_eight c v w e = rw (eighth_kind (kind_at s c) e) (by (refusal2 s c) _)
    where
      by : (b : Bool) (number : ℕ) → As (given (cond b 2 4) (end_of c) v) (given (cond b 2 number) (end_of c) w)
      by true number = inl refl
      by false number = inr (record { before = c; is_four = refl; is_eight = e })

  at_another : (c : Counts) (n : ℕ) → kind_at s c ≢ 8
      → As (records_of_seven s n (next c (kind_of (kind_at s c)))) (records_verdict s n (next c (kind_of (kind_at s c))))
      → As (given (refusal_of_seven s c) (end_of c) (records_of_seven s n (next c (kind_of_seven (kind_at s c)))))
      (given (record_refusal s c) (end_of c) (records_verdict s n (next c (kind_of (kind_at s c)))))
  unfolding refusal_of_seven record_refusal
  at_another c n h on = rw (other_kind (kind_at s c) h) (same_place (first_of (rules_of s c (kind_of (kind_at s c)))) (end_of c) _ _ on)

  records_as : (n : ℕ) (c : Counts) → As (records_of_seven s n c) (records_verdict s n c)
  unfolding records_of_seven records_verdict
  records_as zero c = inl refl
  records_as (suc n) c =
      ⊎_elim
      (λ (e : kind_at s c ≡ 8). at_eight c _ _ e)
      (λ (h : kind_at s c ≢ 8). at_another c n h (records_as n (next c (kind_of (kind_at s c)))))
      (same? (kind_at s c) 8)

-- it reads a byte string as this bench does, or refuses it with 4 at a record of kind 8
pub read_as : (s : List ℕ) → (verdict_of_seven s ≡ verdict s) ⊎ FourAtEight s (verdict_of_seven s)
unfolding verdict_of_seven verdict
read_as s = same_place s (first_of (head_rules s)) 0 _ _ (records_as s (record_count s) (at_first s))

-- ---- what it accepts has no record of kind 8

none_counted : (n : ℕ) (c : Counts) → (next c (kind_of_seven n)).closures ≡ c.closures
none_counted n c =
    ⊎_elim
    (λ (e : n ≡ 8). ap (λ k. (next c k).closures) (eighth_kind n e))
    (λ (h : n ≢ 8).
    rw (other_kind n h)
    (by_kind (λ k. (next c k).closures ≡ c.closures) n (λ e. refl) (λ e. refl) (λ e. refl) (λ e. refl) (λ e. refl) (λ e. refl) (λ e. refl)
    (λ e. absurd (h e)) refl))
    (same? n 8)

given_accepted : (number at : ℕ) (v : Result Counts Refusal) (d : Counts) → given number at v ≡ Ok d → v ≡ Ok d
given_accepted number at v d h =
    ⊎_elim
    (λ (t : eqb number 0 ≡ true). rw t at h)
    (λ (t : eqb number 0 ≡ false). absurd (refused≢accepted (rw t at h)))
    (which (eqb number 0))

tail_counts : (s : List ℕ) (c d : Counts) → tail_verdict s c ≡ Ok d → c ≡ d
unfolding tail_verdict
tail_counts s c d h = same_counts (given_accepted (first_of (tail_rules s c)) (end_of c) (Ok c) d h)

records_open : (s : List ℕ) (n : ℕ) (c d : Counts) → records_of_seven s n c ≡ Ok d → c.closures ≡ 0 → d.closures ≡ 0
unfolding records_of_seven
records_open s zero c d h e = rw (← tail_counts s c d h) e
records_open s (suc n) c d h e =
    records_open s n (next c (kind_of_seven (kind_at s c))) d (given_accepted (refusal_of_seven s c) (end_of c) _ d h) (none_counted (kind_at s c) c ∙ e)

pub seven_open : (s : List ℕ) (c : Counts) → verdict_of_seven s ≡ Ok c → c.closures ≡ 0
unfolding verdict_of_seven
seven_open s c h = records_open s (record_count s) (at_first s) c (given_accepted (first_of (head_rules s)) 0 _ c h) refl

-- ---- and a sheet that is accepted without one is accepted by it

never_fewer : (n : ℕ) (c : Counts) → c.closures ≤ (next c (kind_of n)).closures
never_fewer n c =
    by_kind (λ k. c.closures ≤ (next c k).closures) n (λ e. omega arith) (λ e. omega arith) (λ e. omega arith) (λ e. omega arith) (λ e. omega arith)
    (λ e. omega arith) (λ e. omega arith) (λ e. omega arith) (omega arith)

eight_counts : (n : ℕ) (c : Counts) → n ≡ 8 → (next c (kind_of n)).closures ≡ c.closures + 1
unfolding kind_of
eight_counts n c e = rw e

records_more : (s : List ℕ) (n : ℕ) (c d : Counts) → records_verdict s n c ≡ Ok d → c.closures ≤ d.closures
unfolding records_verdict
records_more s zero c d h = rw (tail_counts s c d h) (omega arith)
records_more s (suc n) c d h =
    let on = records_more s n (next c (kind_of (kind_at s c))) d (given_accepted (record_refusal s c) (end_of c) _ d h) in
    omega (arith, never_fewer (kind_at s c) c, on)

same_refusal : (s : List ℕ) (c : Counts) (n : ℕ) (d : Counts) → kind_at s c ≢ 8 → records_of_seven s n (next c (kind_of (kind_at s c))) ≡ Ok d
    → given (record_refusal s c) (end_of c) (records_verdict s n (next c (kind_of (kind_at s c)))) ≡ Ok d
    → given (refusal_of_seven s c) (end_of c) (records_of_seven s n (next c (kind_of_seven (kind_at s c)))) ≡ Ok d
unfolding refusal_of_seven record_refusal
same_refusal s c n d q on h =
    rw (other_kind (kind_at s c) q)
    (sym (ap (given (record_refusal s c) (end_of c)) (given_accepted (record_refusal s c) (end_of c) _ d h ∙ sym on)) ∙ h)

records_accepted : (s : List ℕ) (n : ℕ) (c d : Counts) → records_verdict s n c ≡ Ok d → d.closures ≡ 0 → records_of_seven s n c ≡ Ok d
unfolding records_verdict records_of_seven
records_accepted s zero c d h e = h
records_accepted s (suc n) c d h e =
    let rest = given_accepted (record_refusal s c) (end_of c) _ d h in
    let k = kind_at s c in
    ⊎_elim
    (λ (q : kind_at s c ≡ 8). absurd (omega (arith, eight_counts k c q, records_more s n (next c (kind_of k)) d rest, e)))
    (λ (q : kind_at s c ≢ 8). same_refusal s c n d q (records_accepted s n (next c (kind_of k)) d rest e) h)
    (same? (kind_at s c) 8)

pub seven_accepted : (s : List ℕ) (c : Counts) → verdict s ≡ Ok c → c.closures ≡ 0 → verdict_of_seven s ≡ Ok c
unfolding verdict verdict_of_seven
seven_accepted s c h e =
    let rest = given_accepted (first_of (head_rules s)) 0 _ c h in
    sym (ap (given (first_of (head_rules s)) 0) (rest ∙ sym (records_accepted s (record_count s) (at_first s) c rest e))) ∙ h
