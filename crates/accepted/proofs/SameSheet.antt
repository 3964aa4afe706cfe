-- The limit is bytes 6 and 7, whole. Two accepted byte lists that agree everywhere else have the same counts and the same sheet. Assumes nothing.
use Rattle.std.specs.Prelude.{Ok}
use Rattle.std.specs.Prelude.{ℕ, zero, suc, ◌+◌, ◌*◌, ◌≤◌, ◌<◌, ◌≡◌, List, ◌⊎◌}
use Rattle.std.proofs.Common.{sym, ap, ◌∙◌, subst, inl, inr, ⊎_elim, mul-zero, mul-one, mul-le-mul_left, arith}
use Rattle.std.proofs.Math.Path.{fun_ext}
use Rattle.laws.specs.Bools.{less?}
use Rattle.bits.specs.Field.{field_at, field_ext}
use Rattle.components.specs.Codes.{kind_of}
use Rattle.components.specs.declared.Kind.TheVariants as kind
use Rattle.layout.specs.declared.Counts.{Counts}
use Rattle.layout.specs.Table.{head_edition_field, head_count_field, policy_strategy_field, policy_rate_field, policy_traffic_field, policy_w0_field, policy_w1_field, policy_w2_field, policy_w3_field, policy_w4_field}
use Rattle.layout.specs.Table.{policy_w5_field, closed_stop_field}
use Rattle.layout.specs.Offsets.{head_length, stop_start, line_start, car_start, aboard_start, waiting_start, demand_start, closed_start, record_length, across_bits, none, next, end_of}
use Rattle.layout.specs.Records.{from, read, policy_of, stop_of, line_of, car_of, aboard_of, waiting_of, demand_of, sheet_of}
use Rattle.layout.specs.Refusals.{record_count, kind_at}
use Rattle.layout.specs.Verdict.{records_verdict, at_first, verdict}
use Rattle.accepted.specs.Accepted.{on, headed, at_end, accepted}
use Rattle.accepted.specs.SameSheet.{AgreeButLimit}

-- n records of some bits have none, or those of one and more
none_or_more : (a n : ℕ) → (a * n ≡ 0) ⊎ (a ≤ a * n)
none_or_more a n =
    ⊎_elim
    (λ (l : 0 < n). inr (omega (arith, mul-one a, mul-le-mul_left {m = 1} {n = n} a l)))
    (λ (l : n ≤ 0). let e : n ≡ 0 = omega arith in inl (ap (λ (k : ℕ). a * k) e ∙ mul-zero a))
    (less? 0 n)

module _ (s t : List ℕ) (agree : AgreeButLimit s t) where
  early : (at w : ℕ) → at + w ≤ 48 → field_at s at w ≡ field_at t at w
  early at w h = field_ext s t at w (λ k l m. agree k (omega arith) (omega arith))

  late : (at w : ℕ) → 64 ≤ at → field_at s at w ≡ field_at t at w
  late at w h = field_ext s t at w (λ k l m. agree k (omega arith) (omega arith))

  past : (at : ℕ) → 64 ≤ at → from s at ≡ from t at
  past at h = fun_ext λ o. fun_ext λ w. late (at + o) w (omega arith)

  -- a record starts at bit 24, or past the limit
  kind_same : (c : Counts) → kind_at s c ≡ kind_at t c
  kind_same c =
      ⊎_elim
      (λ (l : end_of c < 64).
      let a = record_length c.across kind.Stop in
      let b = record_length c.across kind.Car in
      let la : 118 ≤ record_length c.across kind.Stop = omega arith in
      let lb : 737 ≤ record_length c.across kind.Car = omega arith in
      ⊎_elim
      (λ (s0 : record_length c.across kind.Stop * c.stops ≡ 0).
      ⊎_elim
      (λ (k0 : record_length c.across kind.Car * c.cars ≡ 0).
      let p : c.policies ≡ 0 = omega arith in
      let r : c.lines + c.aboards + c.waits + c.demands + c.closures ≡ 0 = omega arith in
      early (end_of c + 0) 6 (omega arith))
      (λ (k1 : record_length c.across kind.Car ≤ record_length c.across kind.Car * c.cars). absurd (omega arith))
      (none_or_more b c.cars))
      (λ (s1 : record_length c.across kind.Stop ≤ record_length c.across kind.Stop * c.stops). absurd (omega arith))
      (none_or_more a c.stops))
      (λ (l : 64 ≤ end_of c). late (end_of c + 0) 6 (omega arith))
      (less? (end_of c) 64)

  counts_from : (n : ℕ) (c d e : Counts) → records_verdict s n c ≡ Ok d → records_verdict t n c ≡ Ok e → d ≡ e
  counts_from zero c d e p q = sym (at_end s c d p) ∙ at_end t c e q
  counts_from (suc n) c d e p q =
      counts_from n (next c (kind_of (kind_at s c))) d e (on s n c d p).1
      (subst (λ k. records_verdict t n (next c (kind_of k)) ≡ Ok e) (sym (kind_same c)) (on t n c e q).1)

  pub counts_same : (c d : Counts) → verdict s ≡ Ok c → verdict t ≡ Ok d → c ≡ d
  counts_same c d p q =
      counts_from (record_count s) (at_first s) c d (headed s c p).rest
      (subst (λ w. records_verdict t (record_count s) (none (across_bits w)) ≡ Ok d) (sym (early head_edition_field.start head_edition_field.width (omega arith)))
      (subst (λ n. records_verdict t n (at_first t) ≡ Ok d) (sym (early head_count_field.start head_count_field.width (omega arith)))
      (headed t d q).rest))

  policy_same : policy_of (from s head_length) ≡ policy_of (from t head_length)
  unfolding policy_of
  policy_same =
      cc (
        early (head_length + policy_strategy_field.start) policy_strategy_field.width (omega arith),
        late (head_length + policy_rate_field.start) policy_rate_field.width (omega arith),
        late (head_length + policy_traffic_field.start) policy_traffic_field.width (omega arith),
        late (head_length + policy_w0_field.start) policy_w0_field.width (omega arith),
        late (head_length + policy_w1_field.start) policy_w1_field.width (omega arith),
        late (head_length + policy_w2_field.start) policy_w2_field.width (omega arith),
        late (head_length + policy_w3_field.start) policy_w3_field.width (omega arith),
        late (head_length + policy_w4_field.start) policy_w4_field.width (omega arith),
        late (head_length + policy_w5_field.start) policy_w5_field.width (omega arith),
      )

  by_counts : (c : Counts) → c.policies ≡ 1 → sheet_of s c ≡ sheet_of t c
  unfolding sheet_of
  by_counts c one =
      λ i. record {
        policy = policy_same i;
        stops = c.stops;
        stop = λ j. stop_of c.across (past (stop_start c j) (omega arith) i);
        lines = c.lines;
        line = λ j. line_of (past (line_start c j) (omega arith) i);
        cars = c.cars;
        car = λ j. car_of c.across (past (car_start c j) (omega arith) i);
        aboards = c.aboards;
        aboard = λ j. aboard_of (past (aboard_start c j) (omega arith) i);
        waits = c.waits;
        waiting = λ j. waiting_of (past (waiting_start c j) (omega arith) i);
        demands = c.demands;
        demand = λ j. demand_of (past (demand_start c j) (omega arith) i);
        closures = c.closures;
        closed = λ j. read (past (closed_start c j) (omega arith) i) closed_stop_field;
      }

  pub sheet_same : (c d : Counts) → verdict s ≡ Ok c → verdict t ≡ Ok d → sheet_of s c ≡ sheet_of t d
  sheet_same c d p q = by_counts c (accepted s c p).one_policy ∙ ap (sheet_of t) (counts_same c d p q)
