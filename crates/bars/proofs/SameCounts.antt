-- Two accepted byte lists that agree but in bars have the same counts: no record's kind holds a bar. Assumes nothing.
use Rattle.std.specs.Prelude.{Ok}
use Rattle.std.specs.Prelude.{ℕ, zero, suc, ◌+◌, ◌*◌, ◌≤◌, ◌<◌, ◌≡◌, List, ltb}
use Rattle.std.proofs.Math.Path.{refl}
use Rattle.std.proofs.Common.{sym, ap, ap₂, ◌∙◌, subst, inl, inr, ⊎_elim, mul-le-mul_left, arith, ltb-false}
use Rattle.laws.specs.Bools.{less?, neither_left}
use Rattle.components.specs.Codes.{kind_of, by_kind}
use Rattle.components.specs.declared.Kind.TheVariants as kind
use Rattle.bits.specs.Field.{field_at}
use Rattle.layout.specs.declared.Counts.{Counts}
use Rattle.layout.specs.Table.{head_edition_field, head_count_field}
use Rattle.layout.specs.Offsets.{record_length, across_bits, none, next, end_of, last_kind}
use Rattle.layout.specs.Refusals.{record_count, kind_at, refusal6}
use Rattle.layout.specs.Verdict.{records_verdict, at_first, verdict}
use Rattle.layout.specs.VerdictLaws.{Clean}
use Rattle.accepted.specs.Accepted.{Last, last, on, headed, at_end}
use Rattle.bars.specs.Agree.{AgreeButBars, Clear, field_same}
use Rattle.bars.proofs.Clear.{fits, clear_before}

-- ---- what was read first

-- records of the kinds after the cars
abbrev after_cars : Counts → ℕ
after_cars c = c.aboards + c.waits + c.demands + c.closures

-- c was counted on the way to d. "Kinds never fall": at the first car all stops and lines were counted, and past the last one all cars
record Prefix (c d : Counts) : Type 0 where
  pub across : c.across ≡ d.across
  pub policies : c.policies ≤ d.policies
  pub stops : c.stops ≤ d.stops
  pub lines : c.lines ≤ d.lines
  pub at_cars : 0 < c.cars + after_cars c → (c.policies ≡ d.policies) × (c.stops ≡ d.stops) × (c.lines ≡ d.lines)
  pub past_cars : 0 < after_cars c → c.cars ≡ d.cars

whole : (c : Counts) → Prefix c c
whole c =
    record {
      across = refl;
      policies = omega arith;
      stops = omega arith;
      lines = omega arith;
      at_cars = λ l. (refl, refl, refl);
      past_cars = λ l. refl;
    }

module _ (c d : Counts) (m : ℕ) (e : Last c m) where
  -- a kind before the cars
  early : m < 4 → {A : Type 0} → 0 < c.cars + after_cars c → A
  early q l =
      let k0 = e.cars q in
      let a0 = e.aboards (omega arith) in
      let w0 = e.waits (omega arith) in
      let d0 = e.demands (omega arith) in
      let x0 = e.closures (omega arith) in
      absurd (omega arith)

  without_policy : m ≡ 1 → Prefix (next c kind.Policy) d → Prefix c d
  without_policy q h =
      record {
        across = h.across;
        policies = let l = h.policies in omega arith;
        stops = h.stops;
        lines = h.lines;
        at_cars = λ l. early (omega arith) l;
        past_cars = λ l. early (omega arith) (omega arith);
      }

  without_stop : m ≡ 2 → Prefix (next c kind.Stop) d → Prefix c d
  without_stop q h =
      record {
        across = h.across;
        policies = h.policies;
        stops = let l = h.stops in omega arith;
        lines = h.lines;
        at_cars = λ l. early (omega arith) l;
        past_cars = λ l. early (omega arith) (omega arith);
      }

  without_line : m ≡ 3 → Prefix (next c kind.Line) d → Prefix c d
  without_line q h =
      record {
        across = h.across;
        policies = h.policies;
        stops = h.stops;
        lines = let l = h.lines in omega arith;
        at_cars = λ l. early (omega arith) l;
        past_cars = λ l. early (omega arith) (omega arith);
      }

  without_car : m ≡ 4 → Prefix (next c kind.Car) d → Prefix c d
  without_car q h =
      let a0 = e.aboards (omega arith) in
      let w0 = e.waits (omega arith) in
      let d0 = e.demands (omega arith) in
      let x0 = e.closures (omega arith) in
      record {
        across = h.across;
        policies = h.policies;
        stops = h.stops;
        lines = h.lines;
        at_cars = λ l. h.at_cars (omega arith);
        past_cars = λ l. absurd (omega arith);
      }

-- a kind after the cars
without_late : (c d n : Counts) → Prefix n d → n.across ≡ c.across → n.policies ≡ c.policies → n.stops ≡ c.stops → n.lines ≡ c.lines
    → n.cars ≡ c.cars → 0 < after_cars n → Prefix c d
without_late c d n h w p s l k late =
    let (hp, hs, hl) = h.at_cars (omega arith) in
    record {
      across = sym w ∙ h.across;
      policies = omega (arith, h.policies);
      stops = omega (arith, h.stops);
      lines = omega (arith, h.lines);
      at_cars = λ _. (sym p ∙ hp, sym s ∙ hs, sym l ∙ hl);
      past_cars = λ _. sym k ∙ h.past_cars late;
    }

module _ (s : List ℕ) where
  without_last : (c d : Counts) → Clean s c → Prefix (next c (kind_of (kind_at s c))) d → Prefix c d
  unfolding refusal6
  without_last c d r =
      let m = kind_at s c in
      let e = last c m (ltb-false m (last_kind c) (neither_left (ltb m (last_kind c)) _ r.in_order)) in
      by_kind (λ k. Prefix (next c k) d → Prefix c d) m
      (λ q. without_policy c d m e q) (λ q. without_stop c d m e q) (λ q. without_line c d m e q) (λ q. without_car c d m e q)
      (λ _ h. without_late c d (next c kind.Aboard) h refl refl refl refl refl (omega arith))
      (λ _ h. without_late c d (next c kind.Waiting) h refl refl refl refl refl (omega arith))
      (λ _ h. without_late c d (next c kind.Demand) h refl refl refl refl refl (omega arith))
      (λ _ h. without_late c d (next c kind.Closed) h refl refl refl refl refl (omega arith))
      (λ h. h)

  prefix_of : (n : ℕ) (c d : Counts) → records_verdict s n c ≡ Ok d → Prefix c d
  prefix_of zero c d p = subst (Prefix c) (at_end s c d p) (whole c)
  prefix_of (suc n) c d p = let (r, v) = on s n c d p in without_last c d r (prefix_of n (next c (kind_of (kind_at s c))) d v)

-- ---- a kind holds no bar

module _ (c d : Counts) (h : Prefix c d) where
  stop_bits : record_length c.across kind.Stop * c.stops ≤ record_length d.across kind.Stop * d.stops
  stop_bits =
      omega (
        arith,
        ap (λ (w : ℕ). record_length w kind.Stop * c.stops) h.across,
        mul-le-mul_left {m = c.stops} {n = d.stops} (record_length d.across kind.Stop) h.stops,
      )

  -- past the first car
  clear_late : 0 < c.cars + after_cars c → Clear d (end_of c + 0) 6
  clear_late l i k li lk =
      let (ep, es, el) = h.at_cars l in
      let e : record_length c.across kind.Stop * c.stops ≡ record_length d.across kind.Stop * d.stops =
      ap₂ (λ (w n : ℕ). record_length w kind.Stop * n) h.across es in
      let f : record_length c.across kind.Car * c.cars ≡ record_length d.across kind.Car * c.cars =
      ap (λ (w : ℕ). record_length w kind.Car * c.cars) h.across in
      ⊎_elim
      (λ (m : i < c.cars). inl (omega (arith, fits (record_length d.across kind.Car) i c.cars m)))
      (λ (m : c.cars ≤ i).
      ⊎_elim
      (λ (a : 0 < after_cars c). let q = h.past_cars a in absurd (omega arith))
      (λ (a : after_cars c ≤ 0). inr (omega (arith, mul-le-mul_left {m = c.cars} {n = i} (record_length d.across kind.Car) m)))
      (less? 0 (after_cars c)))
      (less? i c.cars)

  clear_kind : Clear d (end_of c + 0) 6
  clear_kind =
      ⊎_elim
      (λ (l : 0 < c.cars + after_cars c). clear_late l)
      (λ (l : c.cars + after_cars c ≤ 0).
      let z : c.cars ≡ 0 = omega arith in
      clear_before d (end_of c + 0) 6
      (omega (arith, stop_bits, h.policies, h.lines, ap (λ (n : ℕ). record_length c.across kind.Car * n) z)))
      (less? 0 (c.cars + after_cars c))

-- ---- the counts

module _ (first second : List ℕ) (c : Counts) (agree : AgreeButBars first second c) where
  counts_from : (n : ℕ) (e d : Counts) → records_verdict first n e ≡ Ok c → records_verdict second n e ≡ Ok d → c ≡ d
  counts_from zero e d p q = sym (at_end first e c p) ∙ at_end second e d q
  counts_from (suc n) e d p q =
      let clear = clear_kind e c (prefix_of first (suc n) e c p) in
      let same : kind_at first e ≡ kind_at second e = field_same first second c agree (end_of e + 0) 6 clear in
      counts_from n (next e (kind_of (kind_at first e))) d (on first n e c p).1
      (subst (λ k. records_verdict second n (next e (kind_of k)) ≡ Ok d) (sym same) (on second n e d q).1)

  early_same : (at w : ℕ) → at + w ≤ 24 → field_at first at w ≡ field_at second at w
  early_same at w l = field_same first second c agree at w (clear_before c at w (omega arith))

  pub counts_same : (d : Counts) → verdict first ≡ Ok c → verdict second ≡ Ok d → c ≡ d
  counts_same d p q =
      counts_from (record_count first) (at_first first) d (headed first c p).rest
      (subst (λ w. records_verdict second (record_count first) (none (across_bits w)) ≡ Ok d)
      (sym (early_same head_edition_field.start head_edition_field.width (omega arith)))
      (subst (λ n. records_verdict second n (at_first second) ≡ Ok d)
      (sym (early_same head_count_field.start head_count_field.width (omega arith)))
      (headed second d q).rest))
