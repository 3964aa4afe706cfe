-- Laws of the verdict: what a record without a refusal says, and one record more. Assumes nothing.
use Rattle.layout.specs.Refused.{refused}
use Rattle.std.specs.Prelude.{ℕ, suc, ◌-◌, ◌*◌, ◌≤◌, ◌<◌, ◌≡◌, refl, Bool, true, false, List, ◌≢◌}
use Rattle.std.proofs.Common.{◌∙◌, mul-le-mul_left, arith, eq-eqb, ne_eqb}
use Rattle.std.proofs.Math.Path.{ap}
use Rattle.components.specs.Codes.{kind_of}
use Rattle.layout.specs.declared.Counts.{Counts}
use Rattle.layout.specs.Offsets.{next, end_of}
use Rattle.layout.specs.Records.{from}
use Rattle.layout.specs.Refusals.{kind_at, length_at, refusal2, refusal4, refusal5, refusal6, refusal7}
use Rattle.layout.specs.Verdict.{pick, first_of, body_refusal, record_refusal, tail_verdict, records_verdict}

-- ---- no number was picked

pub pick_none : (b : Bool) (n rest : ℕ) → 0 < n → pick b n rest ≡ 0 → (b ≡ false) × (rest ≡ 0)
unfolding pick
pick_none true n rest h e = absurd (omega arith)
pick_none false n rest h e = (refl, e)

-- a record without a refusal: no condition holds
pub record Clean (s : List ℕ) (c : Counts) : Type 0 where
  pub whole : refusal2 s c ≡ false
  pub known : refusal4 (kind_of (kind_at s c)) ≡ false
  pub its_length : refusal5 c (kind_of (kind_at s c)) (length_at s c) ≡ false
  pub in_order : refusal6 c (kind_at s c) ≡ false
  pub has_room : refusal7 c (kind_of (kind_at s c)) ≡ false
  pub body : body_refusal s c (kind_of (kind_at s c)) (from s (end_of c)) ≡ 0

pub clean : (s : List ℕ) (c : Counts) → record_refusal s c ≡ 0 → Clean s c
unfolding record_refusal first_of
clean s c e =
    let a = pick_none (refusal2 s c) 2 _ (omega arith) e in
    let b = pick_none (refusal4 (kind_of (kind_at s c))) 4 _ (omega arith) a.1 in
    let d = pick_none (refusal5 c (kind_of (kind_at s c)) (length_at s c)) 5 _ (omega arith) b.1 in
    let f = pick_none (refusal6 c (kind_at s c)) 6 _ (omega arith) d.1 in
    let g = pick_none (refusal7 c (kind_of (kind_at s c))) 7 _ (omega arith) f.1 in
    record { whole = a.0; known = b.0; its_length = d.0; in_order = f.0; has_room = g.0; body = g.1 }

-- ---- one record more

-- what stands before record i of n is no longer than all of them
pub before_all : (a i n : ℕ) → i < n → a * i ≤ a * n
before_all a i n l = mul-le-mul_left a (omega arith)

-- ---- the records that are left

one_less : (n : ℕ) → 0 < n → n ≡ suc (n - 1)
one_less n h = omega arith

module _ (s : List ℕ) (n : ℕ) (c : Counts) (h : 0 < n) where
  pub verdict_on : record_refusal s c ≡ 0 → records_verdict s n c ≡ records_verdict s (n - 1) (next c (kind_of (kind_at s c)))
  unfolding records_verdict
  verdict_on e = ap (λ (m : ℕ). records_verdict s m c) (one_less n h) ∙ rw (eq-eqb _ _ e)

  pub verdict_stop : record_refusal s c ≢ 0 → records_verdict s n c ≡ refused (record_refusal s c) (end_of c)
  unfolding records_verdict
  verdict_stop e = ap (λ (m : ℕ). records_verdict s m c) (one_less n h) ∙ rw (ne_eqb (record_refusal s c) 0 e)

pub verdict_end : (s : List ℕ) (n : ℕ) (c : Counts) → n ≤ 0 → records_verdict s n c ≡ tail_verdict s c
unfolding records_verdict
verdict_end s n c h = let e : n ≡ 0 = omega arith in rw e
