-- sheet::records meets its contract.
use Rattle.layout.specs.Refused.{refused}
use Prim.Native.Nat.{ℕ, ◌+◌, ◌-◌, ◌<◌}
use Rattle.accepted.specs.Accepted.{Read, no_records, one_more, small, few_demands, few_closures}
use Rattle.bits.specs.Field.{field_at}
use Rattle.components.specs.Codes.{kind_of}
use Rattle.components.specs.declared.Kind.{Kind}
use Rattle.layout.specs.Offsets.{Small, across_bits, none, next, end_of, body_length, across_in, last_kind}
use Rattle.layout.specs.Table.{first}
use Rattle.layout.specs.Records.{from, read}
use Rattle.layout.specs.Refusals.{edition, kind_at, length_at, refusal5}
use Rattle.layout.specs.Verdict.{record_refusal, records_verdict}
use Rattle.layout.specs.VerdictLaws.{Clean, clean, verdict_on, verdict_stop, verdict_end}
use Rattle.layout.proofs.PlaceLaws.{end_next}
use Rattle.layout.specs.declared.Counts.{Counts}
use Rattle.sheet.specs.Kept.{kept, kept_length, keeps, Before, last_next, stops_kept, cars_kept, demands_kept, closures_kept}
use borrow.Author.Tests.{eqb-true, not-false}
use lib.ListN.{length}
use mathlib.Core.List.{List}
use mathlib.Core.Logic.{◌≢◌}
use mathlib.Core.Path.{◌≡◌, refl, sym, ap, ap₂, ◌∙◌}
use native.Mathlib.Nat.{mul-zero}
use native.Mathlib.Omega.{arith}
use Rattle.sheet.proofs.records.Goals as goal

-- before the first record
at_first_lem : (s : List ℕ) {c : Counts} {w : ℕ} (stops cars demands closures : List ℕ) → w ≡ across_bits (edition s) → c ≡ none w
    → length stops ≡ 64 → length cars ≡ 32 → length demands ≡ 64 → length closures ≡ 64 → Before s c 24 0 stops cars demands closures
unfolding last_kind
at_first_lem s {c} {w} stops cars demands closures w_is c-is n1 n2 n3 n4 =
    rw (c-is, w_is) (record {
      read = no_records (Read s) s;
      starts = omega (arith, mul-zero (118 + across_bits (edition s)), mul-zero (737 + across_bits (edition s)));
      last_is = refl;
      stop_places = n1;
      car_places = n2;
      demand_places = n3;
      closed_places = n4;
      tables =
          record {
            stop_ids = record { room = omega (arith, n1); each = λ i l. absurd (omega (arith, l)) };
            car_ids = record { room = omega (arith, n2); each = λ i l. absurd (omega (arith, l)) };
            demand_ids = record { room = omega (arith, n3); each = λ i l. absurd (omega (arith, l)) };
            closed_ids = record { room = omega (arith, n4); each = λ i l. absurd (omega (arith, l)) };
          };
    })

module _ (s : List ℕ) (c : Counts) (at last : ℕ) (stops cars demands closures : List ℕ) (b : Before s c at last stops cars demands closures) where
  few : Small c × (c.demands < 65535) × (c.closures < 65535)
  few =
      let h = small s c b.read in
      (h, omega (arith, few_demands s c b.read, h.stops), omega (arith, few_closures s c b.read, h.stops))

  not_far : at < 16777216
  not_far =
      let h = small s c b.read in
      omega (arith, b.starts, h.policies, h.stop_bits, h.lines, h.car_bits, h.aboards, h.waits, h.demands, h.closures)

  its_code : {code : ℕ} → code ≡ field_at s (at + 0) 6 → code ≡ kind_at s c
  its_code e = e ∙ ap (λ (x : ℕ). field_at s (x + 0) 6) b.starts

  its_stated : {len : ℕ} → len ≡ field_at s (at + 6) 16 → len ≡ length_at s c
  its_stated e = e ∙ ap (λ (x : ℕ). field_at s (x + 6) 16) b.starts

  its_kind : {code : ℕ} {kind : Kind} → code ≡ field_at s (at + 0) 6 → kind ≡ kind_of code → kind ≡ kind_of (kind_at s c)
  its_kind e k = k ∙ ap kind_of (its_code e)

  -- one record more
  after : {code len id number : ℕ} {kind : Kind} {d : Counts} {stops' cars' demands' closures' : List ℕ} → Clean s c → code ≡ kind_at s c
      → len ≡ length_at s c
      → id ≡ read (from s at) (first 32) → kind ≡ kind_of (kind_at s c) → number ≡ 0 → d ≡ next c kind
      → stops' ≡ kept (keeps kind 2 number) c.stops id stops → cars' ≡ kept (keeps kind 4 number) c.cars id cars
      → demands' ≡ kept (keeps kind 7 number) c.demands id demands → closures' ≡ kept (keeps kind 8 number) c.closures id closures
      → Before s d (at + 22 + len) code stops' cars' demands' closures'
  unfolding refusal5
  after {code} {len} {id} h code_is len_is at-id kind_is none_is d-is stops-are cars-are demands-are closures-are =
      let k = kind_of (kind_at s c) in
      let n = body_length k + across_in c.across k in
      let stated : length_at s c ≡ n = eqb-true (length_at s c) n (not-false _ h.its_length) in
      let ends : end_of c + 22 + length_at s c ≡ end_of (next c k) = omega (arith, stated, end_next c k h.known) in
      let id-is : id ≡ read (from s (end_of c)) (first 32) = at-id ∙ ap (λ (x : ℕ). read (from s x) (first 32)) b.starts in
      rw (d-is, stops-are, cars-are, demands-are, closures-are, none_is, kind_is, code_is, len_is, b.starts) (record {
        read = one_more s c b.read h;
        starts = ends;
        last_is = sym (last_next s c b.read h);
        stop_places = kept_length (keeps k 2 0) c.stops id stops ∙ b.stop_places;
        car_places = kept_length (keeps k 4 0) c.cars id cars ∙ b.car_places;
        demand_places = kept_length (keeps k 7 0) c.demands id demands ∙ b.demand_places;
        closed_places = kept_length (keeps k 8 0) c.closures id closures ∙ b.closed_places;
        tables =
            record {
              stop_ids = stops_kept s c b.read h id-is stops b.stop_places b.tables.stop_ids;
              car_ids = cars_kept s c b.read h id-is cars b.car_places b.tables.car_ids;
              demand_ids = demands_kept s c b.read h id-is demands b.demand_places b.tables.demand_ids;
              closed_ids = closures_kept s c b.read h id-is closures b.closed_places b.tables.closed_ids;
            };
      })

pub loop-i-init : goal.loop-i-init
loop-i-init c =
    let start = c in
    let a = start.args in (
      at_first_lem a.s.now _ _ _ _ start.requires c.none-c.ensures refl refl refl refl,
      ap (λ x. records_verdict a.s.now a.count x) (sym c.none-c.ensures) ∙ ap (λ (m : ℕ). records_verdict a.s.now m c.none-c.result) (omega arith),
    )

pub take_record-n-requires : goal.take_record-n-requires
take_record-n-requires c =
    let k = c in
    let front = k.front_at-front.ensures in
    let b = k.loop-i.invariant.0 in (
      (few _ _ _ _ _ _ _ _ b).0,
      b,
      its_code _ _ _ _ _ _ _ _ b front.0.is,
      its_stated _ _ _ _ _ _ _ _ b front.1.is,
      front.1.small,
      front.2,
      its_kind _ _ _ _ _ _ _ _ b front.0.is k.of_code-kind.ensures.is,
    )

pub overflow_cast-result : goal.overflow_cast-result
overflow_cast-result c =
    let r = c in
    omega (arith, not_far _ _ _ _ _ _ _ _ r.loop-i.invariant.0)

pub returns-then-n-ne0 : goal.returns-then-n-ne0
returns-then-n-ne0 c =
    let n = c.take_record-n in
    let r = c in
    let l = r.loop-i in
    let s = r.args.s.now in
    let f : record_refusal s l.c ≢ 0 = λ e. c.if-n-ne0.true (n.ensures.0 ∙ e) in
    sym (l.invariant.1 ∙ verdict_stop s (r.args.count - l.i) l.c (omega (arith, r.loop-i-test.true)) f ∙ ap₂ refused (sym n.ensures.0) (sym l.invariant.0.starts))

pub next-c-requires : goal.next-c-requires
next-c-requires c =
    let r = c in
    few _ _ _ _ _ _ _ _ r.loop-i.invariant.0

pub overflow_add-at : goal.overflow_add-at
overflow_add-at c =
    let r = c in
    omega (arith, not_far _ _ _ _ _ _ _ _ r.loop-i.invariant.0)

pub overflow_cast-at : goal.overflow_cast-at
overflow_cast-at c =
    let r = c in
    omega (arith, r.front_at-front.ensures.1.small)

pub overflow_add-at-in-loop-i : goal.overflow_add-at-in-loop-i
overflow_add-at-in-loop-i c =
    let r = c in
    omega (arith, not_far _ _ _ _ _ _ _ _ r.loop-i.invariant.0, r.front_at-front.ensures.1.small)

pub loop-i-preserved : goal.loop-i-preserved
loop-i-preserved c =
    let d = c in
    let n = c.take_record-n.ensures in
    let r = c in
    let l = r.loop-i in
    let b = l.invariant.0 in
    let front = r.front_at-front.ensures in
    let s = r.args.s.now in
    let f : record_refusal s l.c ≡ 0 = sym n.0 ∙ d.if-n-ne0.false in
    let kind = its_kind _ _ _ _ _ _ _ _ b front.0.is c.of_code-kind.ensures.is in
    let k : c.next-c.result ≡ next l.c (kind_of (kind_at s l.c)) = c.next-c.ensures ∙ ap (next l.c) kind in (
      after _ _ _ _ _ _ _ _ b (clean _ _ f) (its_code _ _ _ _ _ _ _ _ b front.0.is) (its_stated _ _ _ _ _ _ _ _ b front.1.is) front.2 kind
          d.if-n-ne0.false
          c.next-c.ensures
          n.1 n.2 n.3 n.4,
      l.invariant.1 ∙ verdict_on s (r.args.count - l.i) l.c (omega (arith, r.loop-i-test.true)) f ∙ ap (records_verdict s (r.args.count - l.i - 1)) (sym k)
          ∙ ap (λ (x : ℕ). records_verdict s x c.next-c.result) (omega arith),
    )

pub tail-requires : goal.tail-requires
tail-requires c = (few _ _ _ _ _ _ _ _ c.loop-i.invariant.0).0

pub returns : goal.returns
returns c = c.tail.ensures ∙ sym (c.loop-i.invariant.1 ∙ verdict_end _ _ _ (omega (arith, c.loop-i-test.false)))
