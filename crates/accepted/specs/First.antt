-- A byte list has the verdict of its first 65,536 bytes, so a program with a buffer of that size answers for every input: what was read without a
-- refusal ends by bit 218,258, and a record has at most 65,557 bits. Assumes nothing.
use Prim.Native.Nat.{ℕ, zero, suc, ◌+◌, ◌-◌, ◌*◌, ◌≤◌, ◌<◌}
use Rattle.std.specs.Prelude.{◌≡◌, Bool, true, false, ◌||◌, List, ◌⊎◌, leb, take}
use Rattle.std.proofs.Math.Path.{refl, sym, ap, fun_ext}
use Rattle.std.proofs.Common.{◌∙◌, subst, arith, length-take-le, take_all}
use Rattle.std.proofs.Math.Bool.{cond}
use Rattle.std.proofs.Math.Logic.{⊎_elim}
use Rattle.std.proofs.Math.Nat.{mul-le-mul_left}
use Rattle.std.proofs.Math.Dec.{eqb}
use Rattle.std.proofs.Math.ListN.{length}
use borrow.Author.Tests.{eqb-true, le-ltb, leb-true}
use Rattle.laws.specs.Bools.{which, less?}
use Rattle.laws.specs.Folds.{any_cong}
use Rattle.bits.specs.Field.{field_at, field_take, field_lt}
use Rattle.components.specs.declared.Kind.{Kind}
use Rattle.components.specs.declared.Kind.TheVariants.{Policy, Stop, Line, Car, Aboard, Waiting, Demand, Closed, Unknown}
use Rattle.components.specs.declared.Strategy.{Strategy}
use Rattle.components.specs.declared.Strategy.TheVariants.{Etd, Rsr, Scan}
use Rattle.components.specs.declared.Strategy.TheVariants as strategy
use Rattle.components.specs.Codes.{kind_of, strategy_code}
use Rattle.components.specs.declared.Kind.TheVariants as kind
use Rattle.layout.specs.declared.Counts.{Counts}
use Rattle.layout.specs.Offsets.{head_length, stop_start, record_length, across_bits, none, next, end_of, stops_from, lines_from, cars_from, demands_from, closures_from, body_from}
use Rattle.layout.specs.Table.{line_id_field, car_id_field, car_line_field, aboard_car_field, waiting_stop_field, demand_stop_field, closed_stop_field, first, stop_id_field}
use Rattle.layout.specs.Records.{Fields, from, read}
use Rattle.layout.specs.Refusals.{edition, record_count, kind_at, length_at, refusal2_head, refusal3, refusal6_empty, refusal16, tail_fits, strategy_at, seen}
use Rattle.layout.specs.Refusals.{has_stop, has_line, has_car, has_demand, has_closed, last_stop, unused_weights, refusal2, refusal8_policy}
use Rattle.layout.specs.Refusals.{refusal11_policy, refusal12, refusal9_stop, refusal11_stop, refusal9_line, refusal10_line, refusal8_car}
use Rattle.layout.specs.Refusals.{refusal9_car, refusal10_car, refusal11_car, refusal13, refusal8_aboard, refusal9_aboard, refusal10_aboard}
use Rattle.layout.specs.Refusals.{refusal8_waiting, refusal9_waiting, refusal10_waiting, refusal11_waiting, refusal14, refusal9_demand, refusal10_demand, refusal9_closed, refusal10_closed}
use Rattle.layout.specs.Verdict.{pick, body_refusal, record_refusal, tail_verdict, records_verdict, verdict, first_of}
use Rattle.layout.specs.VerdictLaws.{clean, before_all}
use Rattle.accepted.specs.Accepted.{Read, Records, one_more, small, few_demands, few_closures, no_records}

-- ---- a record is read within the bits of the longest, a car of edition 2

abbrev clip : Fields → Fields
clip f o w = cond (leb (o + w) (record_length 64 kind.Car)) (f o w) 0

clip_same : (f g : Fields) → ((o w : ℕ) → o + w ≤ record_length 64 kind.Car → f o w ≡ g o w) → clip f ≡ clip g
clip_same f g h = fun_ext λ o. fun_ext λ w. by_test (leb (o + w) (record_length 64 kind.Car)) (f o w) (g o w)
    (λ e. h o w (leb-true (o + w) (record_length 64 kind.Car) e))
  where
    by_test : (b : Bool) (x y : ℕ) → (b ≡ true → x ≡ y) → cond b x 0 ≡ cond b y 0
    by_test true x y h = h refl
    by_test false x y h = refl

module _ (s : List ℕ) (c : Counts) (two : (c.across ≡ 0) ⊎ (c.across ≡ 64)) (f : Fields) where
  unused_clip : (k : Strategy) → unused_weights k f ≡ unused_weights k (clip f)
  unused_clip Etd = refl
  unused_clip Rsr = refl
  unused_clip Scan = refl
  unused_clip strategy.Unknown = refl

  policy_clip : body_refusal s c kind.Policy f ≡ body_refusal s c kind.Policy (clip f)
  unfolding first_of refusal8_policy refusal11_policy refusal12
  policy_clip =
      ap (λ (a : Bool). pick (eqb (strategy_code (strategy_at f)) 3 || a) 8 (pick (refusal11_policy f) 11 (pick (refusal12 f) 12 0)))
      (unused_clip (strategy_at f))

  stop_clip : body_refusal s c kind.Stop f ≡ body_refusal s c kind.Stop (clip f)
  unfolding first_of refusal9_stop refusal11_stop
  stop_clip = ⊎_elim (λ (e : c.across ≡ 0). rw e refl) (λ (e : c.across ≡ 64). rw e refl) two

  line_clip : body_refusal s c kind.Line f ≡ body_refusal s c kind.Line (clip f)
  unfolding first_of refusal9_line refusal10_line
  line_clip = refl

  car_clip : body_refusal s c kind.Car f ≡ body_refusal s c kind.Car (clip f)
  unfolding first_of refusal8_car refusal9_car refusal10_car refusal11_car refusal13
  car_clip = ⊎_elim (λ (e : c.across ≡ 0). rw e refl) (λ (e : c.across ≡ 64). rw e refl) two

  aboard_clip : body_refusal s c kind.Aboard f ≡ body_refusal s c kind.Aboard (clip f)
  unfolding first_of refusal8_aboard refusal9_aboard refusal10_aboard
  aboard_clip = refl

  waiting_clip : body_refusal s c kind.Waiting f ≡ body_refusal s c kind.Waiting (clip f)
  unfolding first_of refusal8_waiting refusal9_waiting refusal10_waiting refusal11_waiting refusal14
  waiting_clip = refl

  demand_clip : body_refusal s c kind.Demand f ≡ body_refusal s c kind.Demand (clip f)
  unfolding first_of refusal9_demand refusal10_demand
  demand_clip = refl

  closed_clip : body_refusal s c kind.Closed f ≡ body_refusal s c kind.Closed (clip f)
  unfolding first_of refusal9_closed refusal10_closed
  closed_clip = refl

  body_clip : (k : Kind) → body_refusal s c k f ≡ body_refusal s c k (clip f)
  body_clip Policy = policy_clip
  body_clip Stop = stop_clip
  body_clip Line = line_clip
  body_clip Car = car_clip
  body_clip Aboard = aboard_clip
  body_clip Waiting = waiting_clip
  body_clip Demand = demand_clip
  body_clip Closed = closed_clip
  body_clip Unknown = refl

-- ---- the first 65,536 bytes of a longer list

module _ (s : List ℕ) (long : 65536 < length s) where
  abbrev start : List ℕ
  start = take 65536 s

  start_length : length start ≡ 65536
  start_length = length-take-le 65536 s (omega arith)

  field_same : (at w : ℕ) → at + w ≤ 524288 → field_at s at w ≡ field_at start at w
  field_same at w h = sym (field_take s 65536 at w (omega arith))

  edition_same : edition s ≡ edition start
  edition_same = field_same (0 + 0) 8 (omega arith)

  count_same : record_count s ≡ record_count start
  count_same = field_same (0 + 8) 16 (omega arith)

  seen_same : (base len n id : ℕ) → ((i : ℕ) → i < n → base + len * i + body_from + 32 ≤ 524288)
      → seen s base len n id ≡ seen start base len n id
  unfolding seen
  seen_same base len n id h =
      any_cong (λ i. eqb (read (from s (base + len * i)) (first 32)) id) (λ i. eqb (read (from start (base + len * i)) (first 32)) id) n
      (λ i l. ap (λ x. eqb x id) (field_same (base + len * i + body_from) 32 (h i l)))

  -- what was read so far ends by bit 218,258
  module _ (c : Counts) (two : (c.across ≡ 0) ⊎ (c.across ≡ 64)) (near : end_of c ≤ 218258) where
    stops_same : (id : ℕ) → has_stop s c id ≡ has_stop start c id
    stops_same id = seen_same (stops_from c) (record_length c.across kind.Stop) c.stops id
        (λ i l. omega (arith, before_all (record_length c.across kind.Stop) i c.stops l))

    lines_same : (id : ℕ) → has_line s c id ≡ has_line start c id
    lines_same id = seen_same (lines_from c) (record_length c.across kind.Line) c.lines id (λ i l. omega arith)

    cars_same : (id : ℕ) → has_car s c id ≡ has_car start c id
    cars_same id = seen_same (cars_from c) (record_length c.across kind.Car) c.cars id
        (λ i l. omega (arith, before_all (record_length c.across kind.Car) i c.cars l))

    demands_same : (id : ℕ) → has_demand s c id ≡ has_demand start c id
    demands_same id = seen_same (demands_from c) (record_length c.across kind.Demand) c.demands id (λ i l. omega arith)

    closures_same : (id : ℕ) → has_closed s c id ≡ has_closed start c id
    closures_same id = seen_same (closures_from c) (record_length c.across kind.Closed) c.closures id (λ i l. omega arith)

    last_same : last_stop s c ≡ last_stop start c
    unfolding last_stop
    last_same = ap (λ x. cond (eqb c.stops 0) 0 x) (field_same (stop_start c (c.stops - 1) + stop_id_field.start) 32
        (omega (arith, mul-le-mul_left {m = c.stops - 1} {n = c.stops} (record_length c.across kind.Stop) (omega arith))))

    module _ (f : Fields) where
      policy_look : body_refusal s c kind.Policy f ≡ body_refusal start c kind.Policy f
      unfolding first_of
      policy_look = refl

      stop_look : body_refusal s c kind.Stop f ≡ body_refusal start c kind.Stop f
      unfolding first_of refusal9_stop
      stop_look = rw last_same

      line_look : body_refusal s c kind.Line f ≡ body_refusal start c kind.Line f
      unfolding first_of refusal9_line
      line_look = rw (lines_same (read f line_id_field))

      car_look : body_refusal s c kind.Car f ≡ body_refusal start c kind.Car f
      unfolding first_of refusal9_car refusal10_car
      car_look = rw (cars_same (read f car_id_field), lines_same (read f car_line_field))

      aboard_look : body_refusal s c kind.Aboard f ≡ body_refusal start c kind.Aboard f
      unfolding first_of refusal10_aboard
      aboard_look = rw (cars_same (read f aboard_car_field))

      waiting_look : body_refusal s c kind.Waiting f ≡ body_refusal start c kind.Waiting f
      unfolding first_of refusal10_waiting
      waiting_look = rw (stops_same (read f waiting_stop_field))

      demand_look : body_refusal s c kind.Demand f ≡ body_refusal start c kind.Demand f
      unfolding first_of refusal9_demand refusal10_demand
      demand_look = rw (demands_same (read f demand_stop_field), stops_same (read f demand_stop_field))

      closed_look : body_refusal s c kind.Closed f ≡ body_refusal start c kind.Closed f
      unfolding first_of refusal9_closed refusal10_closed
      closed_look = rw (closures_same (read f closed_stop_field), stops_same (read f closed_stop_field))

      body_look : (k : Kind) → body_refusal s c k f ≡ body_refusal start c k f
      body_look Policy = policy_look
      body_look Stop = stop_look
      body_look Line = line_look
      body_look Car = car_look
      body_look Aboard = aboard_look
      body_look Waiting = waiting_look
      body_look Demand = demand_look
      body_look Closed = closed_look
      body_look Unknown = refl

    body_same : (k : Kind) → body_refusal s c k (from s (end_of c)) ≡ body_refusal start c k (from start (end_of c))
    body_same k =
        body_clip s c two (from s (end_of c)) k
        ∙ ap (body_refusal s c k) (clip_same (from s (end_of c)) (from start (end_of c)) (λ o w h. field_same (end_of c + o) w (omega arith)))
        ∙ sym (body_clip s c two (from start (end_of c)) k) ∙ body_look (from start (end_of c)) k

    kind_same : kind_at s c ≡ kind_at start c
    kind_same = field_same (end_of c + 0) 6 (omega arith)

    length_same : length_at s c ≡ length_at start c
    length_same = field_same (end_of c + 6) 16 (omega arith)

    -- a record's length is below 65,536: it ends before bit 524,288
    end_same : refusal2 s c ≡ refusal2 start c
    unfolding refusal2
    end_same =
        let a = field_lt s (end_of c + 6) 16 in
        let b = field_lt start (end_of c + 6) 16 in
        let e = start_length in
        le-ltb (8 * length s) (end_of c + 22 + length_at s c) (omega arith)
        ∙ sym (le-ltb (8 * length start) (end_of c + 22 + length_at start c) (omega arith))

    record_same : record_refusal s c ≡ record_refusal start c
    unfolding record_refusal first_of
    record_same = rw (end_same, length_same, kind_same, body_same (kind_of (kind_at start c)))

    tail_same : tail_verdict s c ≡ tail_verdict start c
    unfolding tail_verdict first_of refusal6_empty refusal16 tail_fits
    tail_same =
        let e = start_length in
        rw (
          count_same,
          le-ltb (8 * length s) (end_of c) (omega arith),
          le-ltb (8 * length start) (end_of c) (omega arith),
          le-ltb (8 * length s - end_of c) 8 (omega arith),
          le-ltb (8 * length start - end_of c) 8 (omega arith),
        )

  ends_near : (c : Counts) → Records s c → end_of c ≤ 218258
  ends_near c h = let m = small s c h in let d = few_demands s c h in let x = few_closures s c h in omega arith

  records_same : (n : ℕ) (c : Counts) → Records s c → records_verdict s n c ≡ records_verdict start n c
  unfolding records_verdict
  records_same zero c h = tail_same c h.across (ends_near c h)
  records_same (suc n) c h =
      let near = ends_near c h in
      ⊎_elim
      (λ (e : eqb (record_refusal s c) 0 ≡ true).
      let q = eqb-true (record_refusal s c) 0 e in
      rw (e, ← record_same c h.across near, e, ← kind_same c h.across near) (records_same n (next c (kind_of (kind_at s c))) (one_more s c h (clean s c q))))
      (λ (e : eqb (record_refusal s c) 0 ≡ false). rw (← record_same c h.across near, e))
      (which (eqb (record_refusal s c) 0))

  long_same : verdict s ≡ verdict start
  unfolding verdict first_of refusal2_head refusal3
  long_same =
      let e = start_length in
      rw (
        le-ltb (8 * length s) head_length (omega arith),
        le-ltb (8 * length start) head_length (omega arith),
        field_same (0 + 0) 8 (omega arith),
        count_same,
        records_same (record_count start) (none (across_bits (edition start))) (subst (λ (w : ℕ). Records s (none w)) (ap across_bits edition_same) (no_records (Read s) s)),
      )

pub first_bytes : (s : List ℕ) → verdict s ≡ verdict (take 65536 s)
first_bytes s =
    ⊎_elim (λ (l : 65536 < length s). long_same s l) (λ (l : length s ≤ 65536). ap verdict (sym (take_all 65536 s l))) (less? 65536 (length s))
