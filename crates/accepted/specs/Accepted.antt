-- The verdict "accepted" makes a sound sheet. Assumes nothing.
use Rattle.std.specs.Prelude.{Ok, Result}
use Rattle.layout.specs.declared.Refusal.{Refusal}
use Rattle.layout.specs.Refused.{refused}
use Rattle.std.specs.Prelude.{None, Some}
use Prim.Native.Nat.{ℕ, zero, suc, ◌+◌, ◌-◌, ◌*◌, ◌/◌, ◌≤◌, ◌<◌}
use Rattle.std.specs.Prelude.{◌≡◌, refl, Bool, true, not, ◌&&◌, cond, List, ◌⊎◌, ◌≢◌, ltb, Float, length}
use Rattle.std.proofs.Math.Path.{sym}
use Rattle.std.proofs.Common.{ap, ◌∙◌, subst, inl, inr, ⊎_elim, mul-le-mul}
use Rattle.std.proofs.Math.Bool.{false}
use native.Mathlib.Omega.{arith}
use Rattle.std.proofs.Math.Dec.{eqb}
use borrow.Author.Tests.{eq-eqb, ne_eqb, eqb-true, eqb-false, ltb-true, ltb-false, leb-false, not-true, not-false}
use Rattle.components.specs.Points.{is_placed}
use Rattle.fp.specs.Ranges.{is_speed, is_mass, is_threshold, is_tick_rate}
use Rattle.mask.specs.Mask.{past_stops}
use Rattle.laws.specs.Bools.{which, never, neither_left, neither_right, both_left, both_right, not_both, same?, less?}
use Rattle.laws.specs.Folds.{any, any_some, any_none, count_above, nth, nth_is}
use Rattle.laws.specs.Counts.{pigeons, count-all}
use Rattle.components.specs.declared.Kind.{Kind}
use Rattle.components.specs.declared.Kind.TheVariants.{Policy, Stop, Line, Car, Aboard, Waiting, Demand, Closed, Unknown}
use Rattle.components.specs.declared.Phase.{Phase}
use Rattle.components.specs.declared.Phase.TheVariants.{Idle, MovingToStop, Repositioning, DoorOpening, Loading, DoorClosing, Stopped}
use Rattle.components.specs.declared.Phase.TheVariants as phases
use Rattle.components.specs.Codes.{kind_of, phase_of, by_code, by_kind, strategy_code, phase_code}
use Rattle.components.specs.Cars.{is_moving, moving_target}
use Rattle.components.specs.declared.Kind.TheVariants as kind
use Rattle.layout.specs.declared.Counts.{Counts}
use Rattle.layout.specs.Offsets.{head_length, stop_start, line_start, car_start, aboard_start, waiting_start, demand_start, closed_start, record_length, across_bits, next, end_of}
use Rattle.layout.specs.Offsets.{last_kind, stops_from, lines_from, cars_from, Small}
use Rattle.layout.specs.Table.{past, car_across_field, car_has_bypass_up_field, car_has_bypass_down_field, car_bypass_down_field, policy_limit_field, policy_rate_field, policy_w0_field, policy_w1_field, policy_w2_field}
use Rattle.layout.specs.Table.{policy_w3_field, policy_w4_field, stop_id_field, line_id_field, line_serves_field, car_id_field, car_line_field, car_phase_field, car_stop_field, car_has_target_field, car_target_field}
use Rattle.layout.specs.Table.{car_position_field, car_speed_field, car_capacity_field, car_load_field, car_bypass_up_field, car_bypass_down_field, car_transition_field, car_dwell_field}
use Rattle.layout.specs.Table.{car_restricted_field, car_calls_field, aboard_car_field, waiting_stop_field, waiting_weight_field, waiting_wait_field, demand_stop_field, first, closed_stop_field}
use Rattle.layout.specs.Records.{Fields, from, flag, double, point, policy_of, stop_of, line_of, car_of, aboard_of, waiting_of, demand_of, sheet_of, limit_of, read}
use Rattle.layout.specs.Refusals.{edition, record_count, kind_at, past_end, refusal2_head, refusal6_empty, refusal16, tail_fits, refusal6, refusal4, refusal7, seen}
use Rattle.layout.specs.Refusals.{has_stop, has_line, has_car, has_demand, has_closed, last_stop, present_zero, strategy_at, phase_at, refusal8_policy}
use Rattle.layout.specs.Refusals.{refusal11_policy, refusal12, refusal9_stop, refusal11_stop, refusal9_line, refusal10_line, refusal8_car}
use Rattle.layout.specs.Refusals.{refusal9_car, refusal10_car, refusal11_car, refusal13, refusal8_aboard, refusal9_aboard, refusal10_aboard}
use Rattle.layout.specs.Refusals.{refusal8_waiting, refusal9_waiting, refusal10_waiting, refusal11_waiting, refusal14, refusal9_demand, refusal10_demand, refusal9_closed, refusal10_closed}
use Rattle.layout.specs.Verdict.{body_refusal, record_refusal, head_rules, tail_rules, given, tail_verdict, records_verdict, at_first, verdict, first_of}
use Rattle.layout.specs.Readings.{refused≢accepted, same_counts}
use Rattle.layout.specs.VerdictLaws.{pick_none, Clean, clean}
use Rattle.accepted.specs.Sound.{Found, Distinct, is_threshold_or, SoundPolicy, SoundStop, SoundLine, SoundCar, SoundWaiting, SoundSheet, Sound}

-- ---- the records that were read

abbrev pub counts : ℕ → ℕ → ℕ → ℕ → ℕ → ℕ → ℕ → ℕ → ℕ → Counts
counts q p s l k a w d x = record { across = q; policies = p; stops = s; lines = l; cars = k; aboards = a; waits = w; demands = d; closures = x }

-- of the record of kind k after those counted, no condition from 7 on holds
pub record Read (s : List ℕ) (c : Counts) (k : Kind) : Type 0 where
  pub has_room : refusal7 c k ≡ false
  pub body : body_refusal s c k (from s (end_of c)) ≡ 0

-- P holds of each record that was counted, with the counts before it: those of its kind that stand before, and all of the lower kinds
pub record Each (P : Counts → Kind → Type 0) (c : Counts) : Type 0 where
  -- of an edition
  pub across : (c.across ≡ 0) ⊎ (c.across ≡ 64)
  pub policies : (i : ℕ) → i < c.policies → P (counts c.across i 0 0 0 0 0 0 0) Policy
  pub stops : (i : ℕ) → i < c.stops → P (counts c.across c.policies i 0 0 0 0 0 0) Stop
  pub lines : (i : ℕ) → i < c.lines → P (counts c.across c.policies c.stops i 0 0 0 0 0) Line
  pub cars : (i : ℕ) → i < c.cars → P (counts c.across c.policies c.stops c.lines i 0 0 0 0) Car
  pub aboards : (i : ℕ) → i < c.aboards → P (counts c.across c.policies c.stops c.lines c.cars i 0 0 0) Aboard
  pub waits : (i : ℕ) → i < c.waits → P (counts c.across c.policies c.stops c.lines c.cars c.aboards i 0 0) Waiting
  pub demands : (i : ℕ) → i < c.demands → P (counts c.across c.policies c.stops c.lines c.cars c.aboards c.waits i 0) Demand
  pub closures : (i : ℕ) → i < c.closures
      → P (counts c.across c.policies c.stops c.lines c.cars c.aboards c.waits c.demands i) Closed

-- each was read
abbrev pub Records : List ℕ → Counts → Type 0
Records s c = Each (Read s) c

-- ---- one record more

-- the kind of the last record bounds which kinds there are
peel : (x v rest m : ℕ) → cond (ltb 0 x) v rest ≤ m → m < v → (x ≡ 0) × (rest ≤ m)
peel x v rest m h l =
    ⊎_elim
    (λ (e : ltb 0 x ≡ true). absurd (let g : v ≤ m = subst (λ b. cond b v rest ≤ m) e h in omega arith))
    (λ (e : ltb 0 x ≡ false). (let z = ltb-false 0 x e in omega arith, subst (λ b. cond b v rest ≤ m) e h))
    (which (ltb 0 x))

pub record Last (c : Counts) (m : ℕ) : Type 0 where
  pub stops : m < 2 → c.stops ≡ 0
  pub lines : m < 3 → c.lines ≡ 0
  pub cars : m < 4 → c.cars ≡ 0
  pub aboards : m < 5 → c.aboards ≡ 0
  pub waits : m < 6 → c.waits ≡ 0
  pub demands : m < 7 → c.demands ≡ 0
  pub closures : m < 8 → c.closures ≡ 0

pub last : (c : Counts) (m : ℕ) → last_kind c ≤ m → Last c m
unfolding last_kind
last c m h =
    let x : m < 8 → _ = λ l. peel c.closures 8 _ m h l in
    let d : m < 7 → _ = λ l. peel c.demands 7 _ m (x (omega arith)).1 l in
    let w : m < 6 → _ = λ l. peel c.waits 6 _ m (d (omega arith)).1 l in
    let a : m < 5 → _ = λ l. peel c.aboards 5 _ m (w (omega arith)).1 l in
    let k : m < 4 → _ = λ l. peel c.cars 4 _ m (a (omega arith)).1 l in
    let n : m < 3 → _ = λ l. peel c.lines 3 _ m (k (omega arith)).1 l in
    let s : m < 2 → _ = λ l. peel c.stops 2 _ m (n (omega arith)).1 l in
    record {
      stops = λ l. (s l).0;
      lines = λ l. (n l).0;
      cars = λ l. (k l).0;
      aboards = λ l. (a l).0;
      waits = λ l. (w l).0;
      demands = λ l. (d l).0;
      closures = λ l. (x l).0;
    }

grown : {P : ℕ → Type 0} {n : ℕ} → ((i : ℕ) → i < n → P i) → P n → (i : ℕ) → i < n + 1 → P i
grown {P} {n} h e i l = ⊎_elim (λ (q : i ≡ n). subst P (sym q) e) (λ q. h i (omega arith)) (same? i n)

above_zero : (n : ℕ) → eqb n 0 ≡ false → 0 < n
above_zero n e = let h = eqb-false n 0 e in ⊎_elim (λ (l : 0 < n). l) (λ (l : n ≤ 0). absurd (h (omega arith))) (less? 0 n)

gone : {n i : ℕ} → n ≡ 0 → i < n → ⊥
gone e l = absurd (omega arith)

agree_counts : {q p s l k a w d x p' s' l' k' a' w' d' x' : ℕ} → p ≡ p' → s ≡ s' → l ≡ l' → k ≡ k' → a ≡ a'
    → w ≡ w' → d ≡ d' → x ≡ x'
    → counts q p s l k a w d x ≡ counts q p' s' l' k' a' w' d' x'
agree_counts e1 e2 e3 e4 e5 e6 e7 e8 = cc

module _ (P : Counts → Kind → Type 0) (c : Counts) (m : ℕ) (h : Each P c) (e : Last c m) where
  with_policy : m ≡ 1 → P c Policy → Each P (next c Policy)
  with_policy q r =
      let s0 = e.stops (omega arith) in
      let l0 = e.lines (omega arith) in
      let k0 = e.cars (omega arith) in
      let a0 = e.aboards (omega arith) in
      let w0 = e.waits (omega arith) in
      let d0 = e.demands (omega arith) in
      let x0 = e.closures (omega arith) in
      record {
        across = h.across;
        policies = grown h.policies (subst (λ x. P x Policy) (agree_counts refl s0 l0 k0 a0 w0 d0 x0) r);
        stops = λ i l. absurd (gone s0 l);
        lines = λ i l. absurd (gone l0 l);
        cars = λ i l. absurd (gone k0 l);
        aboards = λ i l. absurd (gone a0 l);
        waits = λ i l. absurd (gone w0 l);
        demands = λ i l. absurd (gone d0 l);
        closures = λ i l. absurd (gone x0 l);
      }

  with_stop : m ≡ 2 → P c Stop → Each P (next c Stop)
  with_stop q r =
      let l0 = e.lines (omega arith) in
      let k0 = e.cars (omega arith) in
      let a0 = e.aboards (omega arith) in
      let w0 = e.waits (omega arith) in
      let d0 = e.demands (omega arith) in
      let x0 = e.closures (omega arith) in
      record {
        across = h.across;
        policies = h.policies;
        stops = grown h.stops (subst (λ x. P x Stop) (agree_counts refl refl l0 k0 a0 w0 d0 x0) r);
        lines = λ i l. absurd (gone l0 l);
        cars = λ i l. absurd (gone k0 l);
        aboards = λ i l. absurd (gone a0 l);
        waits = λ i l. absurd (gone w0 l);
        demands = λ i l. absurd (gone d0 l);
        closures = λ i l. absurd (gone x0 l);
      }

  with_line : m ≡ 3 → P c Line → Each P (next c Line)
  with_line q r =
      let k0 = e.cars (omega arith) in
      let a0 = e.aboards (omega arith) in
      let w0 = e.waits (omega arith) in
      let d0 = e.demands (omega arith) in
      let x0 = e.closures (omega arith) in
      record {
        across = h.across;
        policies = h.policies;
        stops = h.stops;
        lines = grown h.lines (subst (λ x. P x Line) (agree_counts refl refl refl k0 a0 w0 d0 x0) r);
        cars = λ i l. absurd (gone k0 l);
        aboards = λ i l. absurd (gone a0 l);
        waits = λ i l. absurd (gone w0 l);
        demands = λ i l. absurd (gone d0 l);
        closures = λ i l. absurd (gone x0 l);
      }

  with_car : m ≡ 4 → P c Car → Each P (next c Car)
  with_car q r =
      let a0 = e.aboards (omega arith) in
      let w0 = e.waits (omega arith) in
      let d0 = e.demands (omega arith) in
      let x0 = e.closures (omega arith) in
      record {
        across = h.across;
        policies = h.policies;
        stops = h.stops;
        lines = h.lines;
        cars = grown h.cars (subst (λ x. P x Car) (agree_counts refl refl refl refl a0 w0 d0 x0) r);
        aboards = λ i l. absurd (gone a0 l);
        waits = λ i l. absurd (gone w0 l);
        demands = λ i l. absurd (gone d0 l);
        closures = λ i l. absurd (gone x0 l);
      }

  with_aboard : m ≡ 5 → P c Aboard → Each P (next c Aboard)
  with_aboard q r =
      let w0 = e.waits (omega arith) in
      let d0 = e.demands (omega arith) in
      let x0 = e.closures (omega arith) in
      record {
        across = h.across;
        policies = h.policies;
        stops = h.stops;
        lines = h.lines;
        cars = h.cars;
        aboards = grown h.aboards (subst (λ x. P x Aboard) (agree_counts refl refl refl refl refl w0 d0 x0) r);
        waits = λ i l. absurd (gone w0 l);
        demands = λ i l. absurd (gone d0 l);
        closures = λ i l. absurd (gone x0 l);
      }

  with_waiting : m ≡ 6 → P c Waiting → Each P (next c Waiting)
  with_waiting q r =
      let d0 = e.demands (omega arith) in
      let x0 = e.closures (omega arith) in
      record {
        across = h.across;
        policies = h.policies;
        stops = h.stops;
        lines = h.lines;
        cars = h.cars;
        aboards = h.aboards;
        waits = grown h.waits (subst (λ x. P x Waiting) (agree_counts refl refl refl refl refl refl d0 x0) r);
        demands = λ i l. absurd (gone d0 l);
        closures = λ i l. absurd (gone x0 l);
      }

  with_demand : m ≡ 7 → P c Demand → Each P (next c Demand)
  with_demand q r =
      let x0 = e.closures (omega arith) in
      record {
        across = h.across;
        policies = h.policies;
        stops = h.stops;
        lines = h.lines;
        cars = h.cars;
        aboards = h.aboards;
        waits = h.waits;
        demands = grown h.demands (subst (λ x. P x Demand) (agree_counts refl refl refl refl refl refl refl x0) r);
        closures = λ i l. absurd (gone x0 l);
      }

  with_closed : P c Closed → Each P (next c Closed)
  with_closed r =
      record {
        across = h.across;
        policies = h.policies;
        stops = h.stops;
        lines = h.lines;
        cars = h.cars;
        aboards = h.aboards;
        waits = h.waits;
        demands = h.demands;
        closures = grown h.closures r;
      }

-- one record more, in order
pub and_next : (P : Counts → Kind → Type 0) (c : Counts) (m : ℕ) → refusal6 c m ≡ false → Each P c → P c (kind_of m) → Each P (next c (kind_of m))
unfolding refusal6
and_next P c m o h =
    let e = last c m (ltb-false m (last_kind c) (neither_left (ltb m (last_kind c)) _ o)) in
    by_kind (λ k. P c k → Each P (next c k)) m
    (λ q. with_policy P c m h e q) (λ q. with_stop P c m h e q) (λ q. with_line P c m h e q) (λ q. with_car P c m h e q)
    (λ q. with_aboard P c m h e q) (λ q. with_waiting P c m h e q) (λ q. with_demand P c m h e q)
    (λ q. with_closed P c m h e) (λ _. h)

pub one_more : (s : List ℕ) (c : Counts) → Records s c → Clean s c → Records s (next c (kind_of (kind_at s c)))
one_more s c h r = and_next (Read s) c (kind_at s c) r.in_order h (record { has_room = r.has_room; body = r.body })

-- the first record is a policy
with_first : (s : List ℕ) (c : Counts) → Clean s c → 0 < (next c (kind_of (kind_at s c))).policies
unfolding refusal6
with_first s c r =
    let m = kind_at s c in
    let z = neither_right (ltb m (last_kind c)) (eqb c.policies 0 && not (eqb m 1)) r.in_order in
    let other : m ≢ 1 → 0 < c.policies = λ ne.
    ⊎_elim
    (λ (t : eqb c.policies 0 ≡ true). absurd (not_both (rw (t, ne_eqb m 1 ne)) z))
    (λ (t : eqb c.policies 0 ≡ false). above_zero c.policies t)
    (which (eqb c.policies 0)) in
    by_kind (λ k. refusal4 k ≡ false → 0 < (next c k).policies) m
    (λ q _. omega arith)
    (λ q _. other (λ x. absurd (omega arith)))
    (λ q _. other (λ x. absurd (omega arith)))
    (λ q _. other (λ x. absurd (omega arith)))
    (λ q _. other (λ x. absurd (omega arith)))
    (λ q _. other (λ x. absurd (omega arith)))
    (λ q _. other (λ x. absurd (omega arith)))
    (λ q _. other (λ x. absurd (omega arith)))
    (λ u. never (sym u))
    r.known

-- ---- all records

pub record Whole (s : List ℕ) (c : Counts) : Type 0 where
  pub records : Records s c
  pub first : 0 < c.policies
  pub tail : tail_fits s c ≡ true

-- a place where no rule holds
not_given : (n at : ℕ) (rest : Result Counts Refusal) (c : Counts) → given n at rest ≡ Ok c → (n ≡ 0) × (rest ≡ Ok c)
not_given n at rest c e =
    let r : Bool → Result Counts Refusal = λ b. cond b rest (refused n at) in
    ⊎_elim
    (λ (t : eqb n 0 ≡ true). (eqb-true n 0 t, sym (ap r t) ∙ e))
    (λ (t : eqb n 0 ≡ false). absurd (refused≢accepted (sym (ap r t) ∙ e)))
    (which (eqb n 0))

tail_end : (s : List ℕ) (c d : Counts) → tail_verdict s c ≡ Ok d → (refusal6_empty s ≡ false) × (tail_fits s c ≡ true) × (c ≡ d)
unfolding tail_verdict first_of refusal16
tail_end s c d e =
    let a = not_given (first_of (tail_rules s c)) (end_of c) (Ok c) d e in
    let b = pick_none (refusal6_empty s) 6 _ (omega arith) a.0 in
    let g = pick_none (refusal16 s c) 16 0 (omega arith) b.1 in
    (b.0, not-false (tail_fits s c) g.0, same_counts a.1)

-- no record is left
pub at_end : (s : List ℕ) (c d : Counts) → records_verdict s 0 c ≡ Ok d → c ≡ d
unfolding records_verdict
at_end s c d e = (tail_end s c d e).2

at_tail : (s : List ℕ) (c d : Counts) → Records s c → 0 < c.policies → tail_verdict s c ≡ Ok d → Whole s d
at_tail s c d h f e = let r = tail_end s c d e in subst (Whole s) r.2 (record { records = h; first = f; tail = r.1 })

-- no record was refused
pub on : (s : List ℕ) (n : ℕ) (c d : Counts) → records_verdict s (suc n) c ≡ Ok d
    → Clean s c × (records_verdict s n (next c (kind_of (kind_at s c))) ≡ Ok d)
unfolding records_verdict
on s n c d e =
    let a = not_given (record_refusal s c) (end_of c) (records_verdict s n (next c (kind_of (kind_at s c)))) d e in (clean s c a.0, a.1)

from_here : (s : List ℕ) (n : ℕ) (c d : Counts) → Records s c → (0 < c.policies) ⊎ (0 < n) → records_verdict s n c ≡ Ok d
    → Whole s d
unfolding records_verdict
from_here s zero c d h f e = at_tail s c d h (⊎_elim (λ x. x) (λ x. absurd (omega arith)) f) e
from_here s (suc n) c d h f e =
    let (r, v) = on s n c d e in
    from_here s n (next c (kind_of (kind_at s c))) d (one_more s c h r) (inl (with_first s c r)) v

pub record Headed (s : List ℕ) (c : Counts) : Type 0 where
  pub three : 3 ≤ length s
  pub some : 0 < record_count s
  pub rest : records_verdict s (record_count s) (at_first s) ≡ Ok c

pub headed : (s : List ℕ) (c : Counts) → verdict s ≡ Ok c → Headed s c
unfolding verdict first_of records_verdict refusal2_head refusal6_empty
headed s c e =
    let a = not_given (first_of (head_rules s)) 0 (records_verdict s (record_count s) (at_first s)) c e in
    let b = pick_none (refusal2_head s) 2 _ (omega arith) a.0 in
    let long = ltb-false (8 * length s) head_length b.0 in
    let some : record_count s ≡ 0 → ⊥ = λ z.
    not_both (eq-eqb (record_count s) 0 z) (tail_end s (at_first s) c (subst (λ n. records_verdict s n (at_first s) ≡ Ok c) z a.1)).0 in
    record {
      three = omega arith;
      some = ⊎_elim (λ (l : 0 < record_count s). l) (λ (l : record_count s ≤ 0). absurd (some (omega arith))) (less? 0 (record_count s));
      rest = a.1;
    }

-- a second coordinate has no bits, or 64
pub across_two : (e : ℕ) → (across_bits e ≡ 0) ⊎ (across_bits e ≡ 64)
across_two e = by (eqb e 2)
  where
    by : (b : Bool) → (◌≡◌ {A = ℕ} (cond b 64 0) 0) ⊎ (◌≡◌ {A = ℕ} (cond b 64 0) 64)
    by true = inr refl
    by false = inl refl

pub no_records : (P : Counts → Kind → Type 0) (s : List ℕ) → Each P (at_first s)
no_records P s =
    record {
      across = across_two (edition s);
      policies = λ i l. absurd (omega arith);
      stops = λ i l. absurd (omega arith);
      lines = λ i l. absurd (omega arith);
      cars = λ i l. absurd (omega arith);
      aboards = λ i l. absurd (omega arith);
      waits = λ i l. absurd (omega arith);
      demands = λ i l. absurd (omega arith);
      closures = λ i l. absurd (omega arith);
    }

pub whole : (s : List ℕ) (c : Counts) → verdict s ≡ Ok c → Whole s c
whole s c e = let h = headed s c e in from_here s (record_count s) (at_first s) c (no_records (Read s) s) (inr h.some) h.rest

-- ---- what the conditions leave of each record

module _ (f : Fields) where
  sound_policy : (s : List ℕ) (c : Counts) → body_refusal s c kind.Policy f ≡ 0 → SoundPolicy (policy_of f) × (0 < read f policy_limit_field)
  unfolding first_of refusal8_policy refusal11_policy refusal12 policy_of
  sound_policy s c e =
      let a = pick_none (refusal8_policy f) 8 _ (omega arith) e in
      let b = pick_none (refusal11_policy f) 11 _ (omega arith) a.1 in
      let d = pick_none (refusal12 f) 12 0 (omega arith) b.1 in
      let r0 = not-false _ b.0 in
      let r1 = both_right (is_tick_rate (double f policy_rate_field)) _ r0 in
      let r2 = both_right (is_mass (double f policy_w0_field)) _ r1 in
      let r3 = both_right (is_mass (double f policy_w1_field)) _ r2 in
      let r4 = both_right (is_mass (double f policy_w2_field)) _ r3 in
      let r5 = both_right (is_mass (double f policy_w3_field)) _ r4 in (
        record {
          strategy = λ q. not_both (ap (λ k. eqb (strategy_code k) 3) q) (neither_left (eqb (strategy_code (strategy_at f)) 3) _ a.0);
          rate = both_left (is_tick_rate (double f policy_rate_field)) _ r0;
          w0 = both_left (is_mass (double f policy_w0_field)) _ r1;
          w1 = both_left (is_mass (double f policy_w1_field)) _ r2;
          w2 = both_left (is_mass (double f policy_w2_field)) _ r3;
          w3 = both_left (is_mass (double f policy_w3_field)) _ r4;
          w4 = both_left (is_mass (double f policy_w4_field)) _ r5;
          w5 = both_right (is_mass (double f policy_w4_field)) _ r5;
        },
        above_zero (read f policy_limit_field) d.0,
      )

  record StopFacts (s : List ℕ) (c : Counts) : Type 0 where
    pub sound : SoundStop (stop_of c.across f)
    pub above : last_stop s c < read f stop_id_field

  stop_facts : (s : List ℕ) (c : Counts) → body_refusal s c kind.Stop f ≡ 0 → StopFacts s c
  unfolding first_of refusal9_stop refusal11_stop stop_of
  stop_facts s c e =
      let a = pick_none (refusal9_stop s c f) 9 _ (omega arith) e in
      let b = pick_none (refusal11_stop c f) 11 0 (omega arith) a.1 in
      record {
        sound = record {
          id = above_zero (read f stop_id_field) (neither_left (eqb (read f stop_id_field) 0) _ a.0);
          position = not-false _ b.0;
        };
        above = leb-false (read f stop_id_field) (last_stop s c) (neither_right (eqb (read f stop_id_field) 0) _ a.0);
      }

  record LineFacts (s : List ℕ) (c : Counts) : Type 0 where
    pub id : 0 < read f line_id_field
    pub fresh : has_line s c (read f line_id_field) ≡ false
    pub serves : past_stops (read f line_serves_field) c.stops ≡ false

  line_facts : (s : List ℕ) (c : Counts) → body_refusal s c kind.Line f ≡ 0 → LineFacts s c
  unfolding first_of refusal9_line refusal10_line
  line_facts s c e =
      let a = pick_none (refusal9_line s c f) 9 _ (omega arith) e in
      let b = pick_none (refusal10_line c f) 10 0 (omega arith) a.1 in
      record {
        id = above_zero (read f line_id_field) (neither_left (eqb (read f line_id_field) 0) _ a.0);
        fresh = neither_right (eqb (read f line_id_field) 0) _ a.0;
        serves = b.0;
      }

  record CarFacts (s : List ℕ) (c : Counts) : Type 0 where
    pub id : 0 < read f car_id_field
    pub fresh : has_car s c (read f car_id_field) ≡ false
    pub line : has_line s c (read f car_line_field) ≡ true
    pub phase : eqb (phase_code (phase_at f)) 7 ≡ false
    pub moving : (is_moving (phase_at f) && eqb (read f car_stop_field) 0) ≡ false
    pub position : is_placed (point f car_position_field (car_across_field c.across)) ≡ true
    pub speed : is_speed (double f (past c.across car_speed_field)) ≡ true
    pub capacity : is_mass (double f (past c.across car_capacity_field)) ≡ true
    pub load : is_mass (double f (past c.across car_load_field)) ≡ true
    pub bypassup : is_threshold (double f (past c.across car_bypass_up_field)) ≡ true
    pub bypassdown : is_threshold (double f (past c.across car_bypass_down_field)) ≡ true
    pub ticks : 2 * read f (past c.across car_transition_field) + read f (past c.across car_dwell_field) ≤ 4294967295
    pub restricted : past_stops (read f (past c.across car_restricted_field)) c.stops ≡ false
    pub calls : past_stops (read f (past c.across car_calls_field)) c.stops ≡ false

  car_facts : (s : List ℕ) (c : Counts) → body_refusal s c kind.Car f ≡ 0 → CarFacts s c
  unfolding first_of refusal8_car refusal9_car refusal10_car refusal11_car refusal13
  car_facts s c e =
      let r8 = pick_none (refusal8_car c f) 8 _ (omega arith) e in
      let r9 = pick_none (refusal9_car s c f) 9 _ (omega arith) r8.1 in
      let r10 = pick_none (refusal10_car s c f) 10 _ (omega arith) r9.1 in
      let r11 = pick_none (refusal11_car c f) 11 _ (omega arith) r10.1 in
      let r13 = pick_none (refusal13 c f) 13 0 (omega arith) r11.1 in
      let i1 = neither_right (eqb (read f car_id_field) 0) _ r9.0 in
      let i2 = neither_right (eqb (read f car_line_field) 0) _ i1 in
      let i3 = neither_right (is_moving (phase_at f) && eqb (read f car_stop_field) 0) _ i2 in
      let m = neither_right (not (has_line s c (read f car_line_field))) _ r10.0 in
      let d0 = not-false _ r11.0 in
      let d1 = both_right (is_placed (point f car_position_field (car_across_field c.across))) _ d0 in
      let d2 = both_right (is_speed (double f (past c.across car_speed_field))) _ d1 in
      let d3 = both_right (is_mass (double f (past c.across car_capacity_field))) _ d2 in
      let d4 = both_right (is_mass (double f (past c.across car_load_field))) _ d3 in
      record {
        id = above_zero (read f car_id_field) (neither_left (eqb (read f car_id_field) 0) _ r9.0);
        fresh = neither_right (present_zero f car_has_target_field car_target_field) _ i3;
        line = not-false _ (neither_left (not (has_line s c (read f car_line_field))) _ r10.0);
        phase = neither_left (eqb (phase_code (phase_at f)) 7) _ r8.0;
        moving = neither_left (is_moving (phase_at f) && eqb (read f car_stop_field) 0) _ i2;
        position = both_left (is_placed (point f car_position_field (car_across_field c.across))) _ d0;
        speed = both_left (is_speed (double f (past c.across car_speed_field))) _ d1;
        capacity = both_left (is_mass (double f (past c.across car_capacity_field))) _ d2;
        load = both_left (is_mass (double f (past c.across car_load_field))) _ d3;
        bypassup = both_left (is_threshold (double f (past c.across car_bypass_up_field))) _ d4;
        bypassdown = both_right (is_threshold (double f (past c.across car_bypass_up_field))) _ d4;
        ticks = ltb-false 4294967295 (2 * read f (past c.across car_transition_field) + read f (past c.across car_dwell_field)) r13.0;
        restricted = neither_left (past_stops (read f (past c.across car_restricted_field)) c.stops) _ m;
        calls = neither_right (past_stops (read f (past c.across car_restricted_field)) c.stops) _ m;
      }

  aboard_car : (s : List ℕ) (c : Counts) → body_refusal s c kind.Aboard f ≡ 0 → has_car s c (read f aboard_car_field) ≡ true
  unfolding first_of refusal10_aboard
  aboard_car s c e =
      let a = pick_none (refusal8_aboard f) 8 _ (omega arith) e in
      let b = pick_none (refusal9_aboard f) 9 _ (omega arith) a.1 in
      not-false _ (pick_none (refusal10_aboard s c f) 10 0 (omega arith) b.1).0

  record WaitingFacts (s : List ℕ) (c : Counts) : Type 0 where
    pub stop : has_stop s c (read f waiting_stop_field) ≡ true
    pub weight : is_mass (double f waiting_weight_field) ≡ true
    pub wait : read f waiting_wait_field ≤ 9007199254740992

  waiting_facts : (s : List ℕ) (c : Counts) → body_refusal s c kind.Waiting f ≡ 0 → WaitingFacts s c
  unfolding first_of refusal10_waiting refusal11_waiting refusal14
  waiting_facts s c e =
      let a = pick_none (refusal8_waiting f) 8 _ (omega arith) e in
      let b = pick_none (refusal9_waiting f) 9 _ (omega arith) a.1 in
      let d = pick_none (refusal10_waiting s c f) 10 _ (omega arith) b.1 in
      let g = pick_none (refusal11_waiting f) 11 _ (omega arith) d.1 in
      let h = pick_none (refusal14 f) 14 0 (omega arith) g.1 in
      record { stop = not-false _ d.0; weight = not-false _ g.0; wait = ltb-false 9007199254740992 (read f waiting_wait_field) h.0 }

  record DemandFacts (s : List ℕ) (c : Counts) : Type 0 where
    pub fresh : has_demand s c (read f demand_stop_field) ≡ false
    pub stop : has_stop s c (read f demand_stop_field) ≡ true

  demand_facts : (s : List ℕ) (c : Counts) → body_refusal s c kind.Demand f ≡ 0 → DemandFacts s c
  unfolding first_of refusal9_demand refusal10_demand
  demand_facts s c e =
      let a = pick_none (refusal9_demand s c f) 9 _ (omega arith) e in
      let b = pick_none (refusal10_demand s c f) 10 0 (omega arith) a.1 in
      record { fresh = neither_right (eqb (read f demand_stop_field) 0) _ a.0; stop = not-false _ b.0 }

  record ClosedFacts (s : List ℕ) (c : Counts) : Type 0 where
    pub fresh : has_closed s c (read f closed_stop_field) ≡ false
    pub stop : has_stop s c (read f closed_stop_field) ≡ true

  closed_facts : (s : List ℕ) (c : Counts) → body_refusal s c kind.Closed f ≡ 0 → ClosedFacts s c
  unfolding first_of refusal9_closed refusal10_closed
  closed_facts s c e =
      let a = pick_none (refusal9_closed s c f) 9 _ (omega arith) e in
      let b = pick_none (refusal10_closed s c f) 10 0 (omega arith) a.1 in
      record { fresh = neither_right (eqb (read f closed_stop_field) 0) _ a.0; stop = not-false _ b.0 }

-- ---- ids

found : (s : List ℕ) (base len n id : ℕ) → seen s base len n id ≡ true → Found (λ i. read (from s (base + len * i)) (first 32)) n id
unfolding seen
found s base len n id h =
    let (k, l, q) = any_some (λ i. eqb (read (from s (base + len * i)) (first 32)) id) n h in
    (k, l, eqb-true (read (from s (base + len * k)) (first 32)) id q)

-- ids that were fresh, each of those before it, are distinct
distinct : (ids : ℕ → ℕ) (n : ℕ) → ((i : ℕ) → i < n → any (λ k. eqb (ids k) (ids i)) i ≡ false) → Distinct ids n
distinct ids n h a b la lb e =
    ⊎_elim (λ q. q)
    (λ ne.
    ⊎_elim
    (λ (l : a < b). absurd (eqb-false (ids a) (ids b) (any_none (λ k. eqb (ids k) (ids b)) b (h b lb) a l) e))
    (λ (l : b ≤ a). absurd (eqb-false (ids b) (ids a) (any_none (λ k. eqb (ids k) (ids a)) a (h a la) b (omega arith)) (sym e)))
    (less? a b))
    (same? a b)

-- each above the one before it: rising
all_rising : (ids : ℕ → ℕ) (n : ℕ) → ((i : ℕ) → suc i < n → ids i < ids (suc i)) → (a b : ℕ) → a < b → b < n → ids a < ids b
all_rising ids n h a zero l m = absurd (omega arith)
all_rising ids n h a (suc b) l m =
    ⊎_elim
    (λ (e : a ≡ b). subst (λ x. ids x < ids (suc b)) (sym e) (h b m))
    (λ ne. omega (arith, all_rising ids n h a b (omega arith) (omega arith), h b m))
    (same? a b)

-- each has a place of its own among the stops: there are no more of them
no_more : (ids stops : ℕ → ℕ) (n m : ℕ) → Distinct ids n → ((i : ℕ) → i < n → Found stops m (ids i)) → n ≤ m
no_more ids stops n m one h =
    let at : ℕ → ℕ → Bool = λ i j. eqb (stops j) (ids i) in
    let place : ℕ → ℕ = λ i. nth (at i) m 0 in
    let is : (i : ℕ) → i < n → (place i < m) × (stops (place i) ≡ ids i) = λ i l.
    let (k, b, q) = h i l in
    let r = nth_is (at i) m 0 (omega (arith, count_above (at i) k m b (eq-eqb (stops k) (ids i) q))) in
    (r.below, eqb-true (stops (place i)) (ids i) r.passes) in
    omega (
      arith,
      count-all n,
      pigeons (λ k. true) place n m (λ a l _. (is a l).0)
          (λ a b la lb _ _ q. one a b la lb (sym (is a la).1 ∙ ap stops q ∙ (is b lb).1)),
    )

up_to : (n m : ℕ) → ((i : ℕ) → i < n → i < m) → n ≤ m
up_to zero m h = omega arith
up_to (suc n) m h = h n (omega arith)

threshold_or : (b : Bool) (x : Float) → is_threshold x ≡ true → is_threshold_or (cond b (Some x) None) ≡ true
threshold_or true x h = h
threshold_or false x h = refl

moving_target_lem : (n id : ℕ) → is_moving (phase_of n id) ≡ true → moving_target (phase_of n id) ≡ id
unfolding phase_of
moving_target_lem n id =
    let P : Phase → Type 0 = λ p. is_moving p ≡ true → moving_target p ≡ id in
    by_code P n 0 Idle _ (λ _ h. never h)
    (by_code P n 1 (MovingToStop id) _ (λ _ h. refl)
    (by_code P n 2 (Repositioning id) _ (λ _ h. refl)
    (by_code P n 3 DoorOpening _ (λ _ h. never h)
    (by_code P n 4 Loading _ (λ _ h. never h)
    (by_code P n 5 DoorClosing _ (λ _ h. never h)
    (by_code P n 6 Stopped phases.Unknown (λ _ h. never h) (λ h. never h)))))))

-- ---- the sheet

pub body_at : {s : List ℕ} {c : Counts} {k : Kind} → Read s c k → (at : ℕ) → end_of c ≡ at → body_refusal s c k (from s at) ≡ 0
body_at {s} {c} {k} r at e = subst (λ x. body_refusal s c k (from s x) ≡ 0) e r.body

module _ (s : List ℕ) (c : Counts) (h : Records s c) where
  the_stop : (j : ℕ) → j < c.stops → StopFacts (from s (stop_start c j)) s (counts c.across c.policies j 0 0 0 0 0 0)
  the_stop j l =
      let at = stop_start c j in stop_facts (from s at) s (counts c.across c.policies j 0 0 0 0 0 0) (body_at (h.stops j l) at (omega arith))

  the_line : (i : ℕ) → i < c.lines → LineFacts (from s (line_start c i)) s (counts c.across c.policies c.stops i 0 0 0 0 0)
  the_line i l =
      let at = line_start c i in
      line_facts (from s at) s (counts c.across c.policies c.stops i 0 0 0 0 0) (body_at (h.lines i l) at (omega arith))

  the_car : (i : ℕ) → i < c.cars → CarFacts (from s (car_start c i)) s (counts c.across c.policies c.stops c.lines i 0 0 0 0)
  the_car i l =
      let at = car_start c i in
      car_facts (from s at) s (counts c.across c.policies c.stops c.lines i 0 0 0 0) (body_at (h.cars i l) at (omega arith))

  the_aboard : (i : ℕ) → i < c.aboards → has_car s c (read (from s (aboard_start c i)) aboard_car_field) ≡ true
  the_aboard i l =
      let at = aboard_start c i in
      aboard_car (from s at) s (counts c.across c.policies c.stops c.lines c.cars i 0 0 0) (body_at (h.aboards i l) at (omega arith))

  the_waiting : (i : ℕ) → i < c.waits
      → WaitingFacts (from s (waiting_start c i)) s (counts c.across c.policies c.stops c.lines c.cars c.aboards i 0 0)
  the_waiting i l =
      let at = waiting_start c i in
      waiting_facts (from s at) s (counts c.across c.policies c.stops c.lines c.cars c.aboards i 0 0) (body_at (h.waits i l) at (omega arith))

  the_demand : (i : ℕ) → i < c.demands
      → DemandFacts (from s (demand_start c i)) s (counts c.across c.policies c.stops c.lines c.cars c.aboards c.waits i 0)
  the_demand i l =
      let at = demand_start c i in
      demand_facts (from s at) s (counts c.across c.policies c.stops c.lines c.cars c.aboards c.waits i 0)
      (body_at (h.demands i l) at (omega arith))

  the_closed : (i : ℕ) → i < c.closures
      → ClosedFacts (from s (closed_start c i)) s (counts c.across c.policies c.stops c.lines c.cars c.aboards c.waits c.demands i)
  the_closed i l =
      let at = closed_start c i in
      closed_facts (from s at) s (counts c.across c.policies c.stops c.lines c.cars c.aboards c.waits c.demands i)
      (body_at (h.closures i l) at (omega arith))

  abbrev stop_ids : ℕ → ℕ
  stop_ids j = read (from s (stop_start c j)) stop_id_field

  abbrev line_ids : ℕ → ℕ
  line_ids i = read (from s (line_start c i)) line_id_field

  abbrev car_ids : ℕ → ℕ
  car_ids i = read (from s (car_start c i)) car_id_field

  abbrev demand_ids : ℕ → ℕ
  demand_ids i = read (from s (demand_start c i)) demand_stop_field

  abbrev closed_ids : ℕ → ℕ
  closed_ids i = read (from s (closed_start c i)) closed_stop_field

  stops_rise : (i : ℕ) → suc i < c.stops → stop_ids i < stop_ids (suc i)
  unfolding last_stop
  stops_rise i l =
      let f = (the_stop (suc i) l).above in
      let e : suc i - 1 ≡ i = omega arith in
      let g : eqb (suc i) 0 ≡ false = ne_eqb (suc i) 0 (λ q. absurd (omega arith)) in
      let z : last_stop s (counts c.across c.policies (suc i) 0 0 0 0 0 0) ≡ stop_ids i = rw (g, e) in
      omega arith

  distinct_lines : Distinct line_ids c.lines
  unfolding seen
  distinct_lines = distinct line_ids c.lines (λ i l. (the_line i l).fresh)

  distinct_cars : Distinct car_ids c.cars
  unfolding seen
  distinct_cars = distinct car_ids c.cars (λ i l. (the_car i l).fresh)

  distinct_demands : Distinct demand_ids c.demands
  unfolding seen
  distinct_demands = distinct demand_ids c.demands (λ i l. (the_demand i l).fresh)

  demand_found : (i : ℕ) → i < c.demands → Found stop_ids c.stops (demand_ids i)
  demand_found i l = found s (stops_from c) (record_length c.across kind.Stop) c.stops (demand_ids i) (the_demand i l).stop

  pub few_demands : c.demands ≤ c.stops
  few_demands = no_more demand_ids stop_ids c.demands c.stops distinct_demands demand_found

  distinct_closures : Distinct closed_ids c.closures
  unfolding seen
  distinct_closures = distinct closed_ids c.closures (λ i l. (the_closed i l).fresh)

  closed_found : (i : ℕ) → i < c.closures → Found stop_ids c.stops (closed_ids i)
  closed_found i l = found s (stops_from c) (record_length c.across kind.Stop) c.stops (closed_ids i) (the_closed i l).stop

  pub few_closures : c.closures ≤ c.stops
  few_closures = no_more closed_ids stop_ids c.closures c.stops distinct_closures closed_found

  pub small : Small c
  small =
      let w : c.across ≤ 64 = ⊎_elim (λ (e : c.across ≡ 0). omega arith) (λ (e : c.across ≡ 64). omega arith) h.across in
      let most_stops = up_to c.stops 64 (λ i l. leb-false 64 i (h.stops i l).has_room) in
      let most_cars = up_to c.cars 32 (λ i l. leb-false 32 i (h.cars i l).has_room) in
      record {
        across = w;
        policies = up_to c.policies 1 (λ i l. leb-false 1 i (h.policies i l).has_room);
        stops = most_stops;
        lines = up_to c.lines 8 (λ i l. leb-false 8 i (h.lines i l).has_room);
        cars = most_cars;
        aboards = up_to c.aboards 512 (λ i l. leb-false 512 i (h.aboards i l).has_room);
        waits = up_to c.waits 512 (λ i l. leb-false 512 i (h.waits i l).has_room);
        demands = let few = few_demands in omega arith;
        closures = let few = few_closures in omega arith;
        stop_bits = mul-le-mul {n₂ = 182} {m₂ = 64} (omega arith) most_stops;
        car_bits = mul-le-mul {n₂ = 801} {m₂ = 32} (omega arith) most_cars;
      }

  sound_line : (i : ℕ) → i < c.lines → SoundLine (sheet_of s c) ((sheet_of s c).line i)
  unfolding sheet_of line_of
  sound_line i l = let f = the_line i l in record { id = f.id; serves = f.serves }

  sound_car : (i : ℕ) → i < c.cars → SoundCar (sheet_of s c) ((sheet_of s c).car i)
  unfolding sheet_of line_of car_of
  sound_car i l =
      let g = from s (car_start c i) in
      let f = the_car i l in
      record {
        id = f.id;
        line = found s (lines_from c) (record_length c.across kind.Line) c.lines (read g car_line_field) f.line;
        phase = λ q. not_both (ap (λ k. eqb (phase_code k) 7) q) f.phase;
        moving = λ q.
            above_zero (moving_target (phase_at g))
            (ap (λ x. eqb x 0) (moving_target_lem (read g car_phase_field) (read g car_stop_field) q) ∙ sym (ap (λ b. b && eqb (read g car_stop_field) 0) q) ∙ f.moving);
        position = f.position;
        speed = f.speed;
        capacity = f.capacity;
        load = f.load;
        bypassup = threshold_or (flag g (past c.across car_has_bypass_up_field)) (double g (past c.across car_bypass_up_field)) f.bypassup;
        bypassdown = threshold_or (flag g (past c.across car_has_bypass_down_field)) (double g (past c.across car_bypass_down_field)) f.bypassdown;
        ticks = let t = f.ticks in omega arith;
        restricted = f.restricted;
        calls = f.calls;
      }

  sound_waiting : (r : ℕ) → r < c.waits → SoundWaiting (sheet_of s c) ((sheet_of s c).waiting r)
  unfolding sheet_of stop_of waiting_of
  sound_waiting r l =
      let f = the_waiting r l in
      record {
        stop = found s (stops_from c) (record_length c.across kind.Stop) c.stops (read (from s (waiting_start c r)) waiting_stop_field) f.stop;
        weight = f.weight;
        wait = f.wait;
      }

-- the bytes end with the byte where the last record ends
tail_length : (s : List ℕ) (c : Counts) → tail_fits s c ≡ true → length s ≡ (end_of c + 7) / 8
unfolding tail_fits
tail_length s c h =
    let a = ltb-false (8 * length s) (end_of c) (not-true (past_end s (end_of c)) (both_left (not (past_end s (end_of c))) _ h)) in
    let b = ltb-true (8 * length s - end_of c) 8 (both_left (ltb (8 * length s - end_of c) 8) _ (both_right (not (past_end s (end_of c))) _ h)) in
    omega arith

pub accepted : (s : List ℕ) (c : Counts) → verdict s ≡ Ok c → Sound s c
unfolding limit_of sheet_of stop_of line_of car_of aboard_of waiting_of demand_of
accepted s c e =
    let w = whole s c e in
    let p = sound_policy (from s head_length) s (counts c.across 0 0 0 0 0 0 0 0)
    (body_at (w.records.policies 0 w.first) head_length (omega arith)) in
    let m = small s c w.records in
    record {
      small = m;
      one_policy = let f = w.first in let g = m.policies in omega arith;
      limit = p.1;
      whole = tail_length s c w.tail;
      sheet = sound_sheet w.records p.0;
    }
  where
    sound_sheet : Records s c → SoundPolicy (policy_of (from s head_length)) → SoundSheet (sheet_of s c)
    sound_sheet h p =
        let m = small s c h in
        record {
          most_stops = m.stops;
          most_lines = m.lines;
          most_cars = m.cars;
          most_aboards = m.aboards;
          most_waits = m.waits;
          most_demands = few_demands s c h;
          most_closures = few_closures s c h;
          policy = p;
          stop = λ j l. (the_stop s c h j l).sound;
          rising = all_rising (stop_ids s c h) c.stops (stops_rise s c h);
          line = sound_line s c h;
          line_ids = distinct_lines s c h;
          car = sound_car s c h;
          car_ids = distinct_cars s c h;
          aboard = λ r l. found s (cars_from c) (record_length c.across kind.Car) c.cars (read (from s (aboard_start c r)) aboard_car_field) (the_aboard s c h r l);
          waiting = sound_waiting s c h;
          demand = demand_found s c h;
          demand_stops = distinct_demands s c h;
          closed = closed_found s c h;
          closed_stops = distinct_closures s c h;
        }
