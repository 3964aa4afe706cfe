-- What the places of a sheet are in its bytes, as long as nothing was refused: a record starts where the stated body of the one before it ends, the
-- last kind is that record's, and every record is counted once. So the counts say of the bytes what document 01 says: "Each record: kind 6 bits, body
-- length in bits 16 bits, body", "Kinds never fall", "record count 16 bits". Assumes nothing.
use Rattle.std.specs.Prelude.{Ok}
use Prim.Native.Nat.{ℕ, zero, suc, ◌+◌, ◌≤◌, ◌<◌}
use Rattle.std.specs.Prelude.{◌≡◌, true, false, cond, List, ltb}
use Rattle.std.proofs.Math.Path.{refl}
use Rattle.std.proofs.Common.{sym, ap, ◌∙◌, subst, ⊎_elim, arith}
use borrow.Author.Tests.{eqb-true, ltb-false, lt-ltb, not-false}
use Rattle.laws.specs.Bools.{never, which, neither_left}
use Rattle.components.specs.declared.Kind.{Kind}
use Rattle.components.specs.declared.Kind.TheVariants.{Policy, Stop, Line, Car, Aboard, Waiting, Demand, Closed, Unknown}
use Rattle.components.specs.Codes.{kind_of, kind_code, by_kind}
use Rattle.layout.specs.declared.Counts.{Counts}
use Rattle.layout.specs.Offsets.{body_length, across_in, record_length, next, last_kind, end_of}
use Rattle.layout.specs.PlaceLaws.{all}
use Rattle.layout.specs.Refusals.{record_count, refusal4, kind_at, length_at, refusal5, refusal6}
use Rattle.layout.specs.Verdict.{record_rules, verdict}
use Rattle.layout.specs.VerdictLaws.{Clean, clean}
use Rattle.layout.specs.Conditions.{None, after, place, rules}
use Rattle.layout.proofs.ConditionLaws.{clean_none}
use Rattle.layout.proofs.Earliest.{accepted_nowhere}

-- ---- one record more, of a known kind

-- the next record starts past this one
pub end_next : (c : Counts) (k : Kind) → refusal4 k ≡ false → end_of (next c k) ≡ end_of c + record_length c.across k
end_next c Policy h = omega arith
end_next c Stop h = omega arith
end_next c Line h = omega arith
end_next c Car h = omega arith
end_next c Aboard h = omega arith
end_next c Waiting h = omega arith
end_next c Demand h = omega arith
end_next c Closed h = omega arith
end_next c Unknown h = never (sym h)

one_more : (c : Counts) (k : Kind) → refusal4 k ≡ false → all (next c k) ≡ all c + 1
one_more c Policy h = omega arith
one_more c Stop h = omega arith
one_more c Line h = omega arith
one_more c Car h = omega arith
one_more c Aboard h = omega arith
one_more c Waiting h = omega arith
one_more c Demand h = omega arith
one_more c Closed h = omega arith
one_more c Unknown h = never (sym h)

-- a code that has a kind is that kind's
code_of : (n : ℕ) → refusal4 (kind_of n) ≡ false → kind_code (kind_of n) ≡ n
code_of n =
    by_kind (λ k. refusal4 k ≡ false → kind_code k ≡ n) n (λ e _. sym e) (λ e _. sym e) (λ e _. sym e) (λ e _. sym e) (λ e _. sym e) (λ e _. sym e)
    (λ e _. sym e) (λ e _. sym e) (λ u. never (sym u))

-- the last kind bounds which kinds there are
peel : (x v rest m : ℕ) → cond (ltb 0 x) v rest ≤ m → m < v → (ltb 0 x ≡ false) × (rest ≤ m)
peel x v rest m h l =
    ⊎_elim
    (λ (e : ltb 0 x ≡ true). absurd (let g : v ≤ m = subst (λ b. cond b v rest ≤ m) e h in omega arith))
    (λ (e : ltb 0 x ≡ false). (e, subst (λ b. cond b v rest ≤ m) e h))
    (which (ltb 0 x))

more : (n : ℕ) → ltb 0 (n + 1) ≡ true
more n = lt-ltb 0 (n + 1) (omega arith)

last_is : (c : Counts) (k : Kind) → refusal4 k ≡ false → last_kind c ≤ kind_code k → last_kind (next c k) ≡ kind_code k
unfolding last_kind
last_is c Closed u h = rw (more c.closures)
last_is c Demand u h = let x = peel c.closures 8 _ 7 h (omega arith) in rw (x.0, more c.demands)
last_is c Waiting u h =
    let x = peel c.closures 8 _ 6 h (omega arith) in
    let d = peel c.demands 7 _ 6 x.1 (omega arith) in rw (x.0, d.0, more c.waits)
last_is c Aboard u h =
    let x = peel c.closures 8 _ 5 h (omega arith) in
    let d = peel c.demands 7 _ 5 x.1 (omega arith) in
    let w = peel c.waits 6 _ 5 d.1 (omega arith) in rw (x.0, d.0, w.0, more c.aboards)
last_is c Car u h =
    let x = peel c.closures 8 _ 4 h (omega arith) in
    let d = peel c.demands 7 _ 4 x.1 (omega arith) in
    let w = peel c.waits 6 _ 4 d.1 (omega arith) in
    let a = peel c.aboards 5 _ 4 w.1 (omega arith) in rw (x.0, d.0, w.0, a.0, more c.cars)
last_is c Line u h =
    let x = peel c.closures 8 _ 3 h (omega arith) in
    let d = peel c.demands 7 _ 3 x.1 (omega arith) in
    let w = peel c.waits 6 _ 3 d.1 (omega arith) in
    let a = peel c.aboards 5 _ 3 w.1 (omega arith) in
    let k = peel c.cars 4 _ 3 a.1 (omega arith) in rw (x.0, d.0, w.0, a.0, k.0, more c.lines)
last_is c Stop u h =
    let x = peel c.closures 8 _ 2 h (omega arith) in
    let d = peel c.demands 7 _ 2 x.1 (omega arith) in
    let w = peel c.waits 6 _ 2 d.1 (omega arith) in
    let a = peel c.aboards 5 _ 2 w.1 (omega arith) in
    let k = peel c.cars 4 _ 2 a.1 (omega arith) in
    let l = peel c.lines 3 _ 2 k.1 (omega arith) in rw (x.0, d.0, w.0, a.0, k.0, l.0, more c.stops)
last_is c Policy u h =
    let x = peel c.closures 8 _ 1 h (omega arith) in
    let d = peel c.demands 7 _ 1 x.1 (omega arith) in
    let w = peel c.waits 6 _ 1 d.1 (omega arith) in
    let a = peel c.aboards 5 _ 1 w.1 (omega arith) in
    let k = peel c.cars 4 _ 1 a.1 (omega arith) in
    let l = peel c.lines 3 _ 1 k.1 (omega arith) in
    let s = peel c.stops 2 _ 1 l.1 (omega arith) in rw (x.0, d.0, w.0, a.0, k.0, l.0, s.0, more c.policies)
last_is c Unknown u h = never (sym u)

-- ---- the record after k others, where no condition holds

module _ (s : List ℕ) (k : ℕ) (l : k < record_count s) (h : None (rules s (suc k))) where
  clean_there : Clean s (after s k)
  unfolding rules
  clean_there =
      let e : rules s (suc k) ≡ record_rules s (after s k) = rw (lt-ltb k (record_count s) l) refl in
      clean s (after s k) ((clean_none s (after s k)).1 (subst None e h))

  -- the next place is where its stated body ends
  pub place_next : place s (suc (suc k)) ≡ place s (suc k) + 22 + length_at s (after s k)
  unfolding place after refusal5
  place_next =
      let g = kind_of (kind_at s (after s k)) in
      let n = body_length g + across_in (after s k).across g in
      let e : length_at s (after s k) ≡ n = eqb-true (length_at s (after s k)) n (not-false _ clean_there.its_length) in
      omega (arith, end_next (after s k) g clean_there.known, e)

  -- the last kind is its kind
  pub last_next : last_kind (after s (suc k)) ≡ kind_at s (after s k)
  unfolding after refusal6
  last_next =
      let n = kind_at s (after s k) in
      let code = code_of n clean_there.known in
      let b = ltb-false n (last_kind (after s k)) (neither_left (ltb n (last_kind (after s k))) _ clean_there.in_order) in
      last_is (after s k) (kind_of n) clean_there.known (subst (λ x. last_kind (after s k) ≤ x) (sym code) b) ∙ code

  -- it is counted once
  pub all_next : all (after s (suc k)) ≡ all (after s k) + 1
  unfolding after
  all_next = one_more (after s k) (kind_of (kind_at s (after s k))) clean_there.known

-- ---- all records

module _ (s : List ℕ) where
  pub all_after : (k : ℕ) → k ≤ record_count s → ((j : ℕ) → j ≤ k → None (rules s j)) → all (after s k) ≡ k
  unfolding after
  all_after zero l h = refl
  all_after (suc k) l h = omega (arith, all_next s k l (h (suc k) (omega arith)), all_after k (omega arith) (λ j i. h j (omega arith)))

  -- an accepted sheet has as many records as its head says
  pub all_counted : (c : Counts) → verdict s ≡ Ok c → all c ≡ record_count s
  all_counted c e =
      let a = (accepted_nowhere s c).0 e in ap all a.1 ∙ all_after (record_count s) (omega arith) (λ j l. a.0.none_at j)
