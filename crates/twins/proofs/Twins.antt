-- A sheet of edition 2 that is accepted has a twin that is accepted, with the same counts and the same records but for second coordinates. Assumes
-- nothing.
use Rattle.std.specs.Prelude.{Ok}
use Prim.Native.Nat.{ℕ, zero, suc, ◌+◌, ◌-◌, ◌*◌, ◌≤◌, ◌<◌}
use Rattle.std.specs.Prelude.{◌≡◌, List, ◌++◌}
use Rattle.std.proofs.Math.Path.{refl, subst}
use Rattle.std.proofs.Common.{sym, ap, ◌∙◌, inr}
use native.Mathlib.Omega.{arith}
use Rattle.std.proofs.Math.ListN.{length, length-append, get_or-eq_default}
use borrow.Author.Tests.{eq-eqb, ne_eqb, le-ltb, lt-ltb}
use Rattle.laws.specs.Tables.{tab}
use Rattle.bits.specs.Field.{bit_at, field_at}
use Rattle.components.specs.Codes.{kind_of}
use Rattle.layout.specs.declared.Counts.{Counts}
use Rattle.layout.specs.Offsets.{head_length, across_bits, last_kind, none, next, end_of}
use Rattle.layout.specs.Records.{limit_of}
use Rattle.layout.specs.Refusals.{edition, record_count, kind_at, refusal2_head, refusal3, refusal6, refusal6_empty, refusal16, tail_fits}
use Rattle.layout.specs.Verdict.{pick, first_of, record_refusal, tail_verdict, records_verdict, at_first, verdict}
use Rattle.accepted.specs.Accepted.{Each, and_next, no_records, at_end, on, headed, accepted}
use Rattle.twins.specs.Written.{Holds, Bits, bits_of, digits, number_of, packed_bit, packed_length, packed_holds, holds_left, holds_right}
use Rattle.twins.specs.Written.{holds_field, holds_number, bits_of_lem, digits_bits, append_bits, bits_length, digits_length}
use Rattle.twins.specs.Twin.{record_of, records_of, twin_bits, twin, under, SameRecords}
use Rattle.twins.specs.Views.{policy_same, limit_same, stop_same, line_same, car_same, aboard_same, waiting_same, demand_same, closed_same}
use Rattle.twins.specs.Looks.{Pair, the_policy, the_stop, the_line, the_car, the_aboard, the_waiting, the_demand, the_closed}
use Rattle.twins.proofs.Steps.{under_next, end_next, record_length_lem, records_bits, kind_same, pair, record_clean}

-- ---- the records that are left

-- t ends with the byte where bit e ends, and has no one bit from there on
record Ends (t : List ℕ) (e : ℕ) : Type 0 where
  pub long : e ≤ 8 * length t
  pub short : 8 * length t < e + 8
  pub zeros : (i : ℕ) → e ≤ i → bit_at t i ≡ 0

zero_field : (t : List ℕ) (at : ℕ) → ((i : ℕ) → at ≤ i → bit_at t i ≡ 0) → (w : ℕ) → field_at t at w ≡ 0
unfolding field_at
zero_field t at h zero = refl
zero_field t at h (suc w) = rw (zero_field t at h w, h (at + w) (omega arith)) refl

module _ (s t : List ℕ) where
  -- the counts that t is accepted with, and the same records
  record Follows (n : ℕ) (c d : Counts) : Type 0 where
    pub counted : records_verdict t n (under 0 c) ≡ Ok (under 0 d)
    pub second : under 64 d ≡ d
    pub pairs : Each (Pair s t) d

  wide : (c : Counts) → Each (Pair s t) c → Each (Pair s t) (under 64 c)
  wide c h =
      record {
        across = inr refl;
        policies = h.policies;
        stops = h.stops;
        lines = h.lines;
        cars = h.cars;
        aboards = h.aboards;
        waits = h.waits;
        demands = h.demands;
        closures = h.closures;
      }

  tail_follows : (c : Counts) → 0 < record_count t → Ends t (end_of (under 0 c)) → tail_verdict t (under 0 c) ≡ Ok (under 0 c)
  unfolding tail_verdict first_of pick refusal6_empty refusal16 tail_fits
  tail_follows c some e =
      let at = end_of (under 0 c) in
      let a = e.long in
      let b = e.short in
      let z : field_at t (end_of (under 0 c) + 0) (8 * length t - end_of (under 0 c)) ≡ 0 =
      zero_field t (at + 0) (λ i l. e.zeros i (omega arith)) (8 * length t - at) in
      rw (
        ne_eqb (record_count t) 0 (λ q. absurd (omega arith)),
        le-ltb (8 * length t) at a,
        lt-ltb (8 * length t - at) 8 (omega arith),
        z,
      ) refl

  module _ (some : 0 < record_count t) (e : ℕ) (ends : Ends t e) where
    follows : (n : ℕ) (c d : Counts) → Each (Pair s t) c → records_verdict s n (under 64 c) ≡ Ok d
        → Holds t (end_of (under 0 c)) (records_of s n (under 64 c)) → end_of (under 0 c) + length (records_of s n (under 64 c)) ≡ e
        → Follows n c d
    unfolding records_verdict records_of refusal6 last_kind
    follows zero c d h v held l =
        let here : end_of (under 0 c) ≡ e = omega arith in
        subst (Follows 0 c) (at_end s (under 64 c) d v)
        (record { counted = tail_follows c some (subst (Ends t) (sym here) ends); second = refl; pairs = wide c h })
    follows (suc n) c d h v held l =
        let (r, w) = on s n (under 64 c) d v in
        let m = kind_at s (under 64 c) in
        let k = kind_of m in
        let a = record_of s 64 k (end_of (under 64 c)) in
        let b = records_of s n (next (under 64 c) k) in
        let long = ends.long in
        let far = record_length_lem s k (end_of (under 64 c)) in
        let all : length (a ++ b) ≡ length a + length b = length-append a b in
        let here = holds_left t (end_of (under 0 c)) a b held in
        let clear : record_refusal t (under 0 c) ≡ 0 = record_clean s t c h r here (omega arith) in
        let then : end_of (under 0 c) + length (record_of s 64 k (end_of (under 64 c))) ≡ end_of (under 0 (next c k)) =
        omega (arith, end_next c k r.known) in
        let rest : Holds t (end_of (under 0 (next c k))) (records_of s n (under 64 (next c k))) =
        subst (λ x. Holds t (end_of (under 0 (next c k))) (records_of s n x)) (under_next 64 c k)
        (subst (λ x. Holds t x (records_of s n (next (under 64 c) k))) then (holds_right t (end_of (under 0 c)) a b held)) in
        let f = follows n (next c k) d (and_next (Pair s t) c m r.in_order h (pair s t c h r here))
        (subst (λ x. records_verdict s n x ≡ Ok d) (under_next 64 c k) w) rest
        (subst (λ x. end_of (under 0 (next c k)) + length (records_of s n x) ≡ e) (under_next 64 c k) (omega arith)) in
        record {
          counted = rw (eq-eqb (record_refusal t (under 0 c)) 0 clear, kind_same s t c h r here, under_next 0 c k) f.counted;
          second = f.second;
          pairs = f.pairs;
        }

module _ (s t : List ℕ) (c : Counts) (h : Each (Pair s t) c) (one : c.policies ≡ 1) where
  by_pairs : SameRecords s t (under 64 c)
  unfolding limit_of
  by_pairs =
      record {
        policy = policy_same _ _ (the_policy s t c h (omega arith));
        limit = limit_same _ _ (the_policy s t c h (omega arith));
        stop = λ j l. stop_same _ _ (the_stop s t c h j l);
        line = λ i l. line_same _ _ (the_line s t c h i l);
        car = λ i l. car_same _ _ (the_car s t c h i l);
        aboard = λ i l. aboard_same _ _ (the_aboard s t c h i l);
        waiting = λ i l. waiting_same _ _ (the_waiting s t c h i l);
        demand = λ i l. demand_same _ _ (the_demand s t c h i l);
        closed = λ i l. closed_same _ _ (the_closed s t c h i l);
      }

-- ---- the twin

module _ (s : List ℕ) where
  abbrev its_bits : List ℕ
  its_bits = records_of s (record_count s) (at_first s)

  are_bits : Bits (twin_bits s)
  are_bits = append_bits _ _ (digits_bits _ _) (append_bits _ _ (bits_of_lem _ _ _) (records_bits _ _ _))

  how_many : length (twin_bits s) ≡ head_length + length its_bits
  how_many = simp (length-append, digits_length, bits_length) (omega arith)

  held : Holds (twin s) 0 (twin_bits s)
  unfolding twin
  held = packed_holds (twin_bits s) are_bits

  -- a twin is of edition 1
  pub edition_one : edition (twin s) ≡ 1
  unfolding number_of digits tab
  edition_one = holds_number (twin s) 0 (digits 8 1) (holds_left (twin s) 0 (digits 8 1) _ held) 8 (omega (arith, digits_length 8 1))

  past_edition : Holds (twin s) 8 (bits_of s 8 16 ++ its_bits)
  past_edition =
      subst (λ (n : ℕ). Holds (twin s) (0 + n) (bits_of s 8 16 ++ its_bits)) (digits_length 8 1) (holds_right (twin s) 0 (digits 8 1) _ held)

  count_same : record_count s ≡ record_count (twin s)
  count_same = holds_field s (twin s) 8 8 16 (holds_left (twin s) 8 (bits_of s 8 16) _ past_edition) 0 16 (omega arith)

  records_held : Holds (twin s) head_length its_bits
  records_held = subst (λ (n : ℕ). Holds (twin s) (8 + n) its_bits) (bits_length s 8 16) (holds_right (twin s) 8 (bits_of s 8 16) _ past_edition)

  ends : Ends (twin s) (head_length + length its_bits)
  unfolding twin
  ends =
      let n = how_many in
      let l = packed_length (twin_bits s) in
      record {
        long = omega arith;
        short = omega arith;
        zeros = λ i h. packed_bit (twin_bits s) are_bits i ∙ get_or-eq_default (twin_bits s) 0 (omega arith);
      }

  module _ (c : Counts) (v : verdict s ≡ Ok c) (two : edition s ≡ 2) where
    at_first_lem : at_first s ≡ none 64
    at_first_lem = ap (λ e. none (across_bits e)) two

    followed : Follows s (twin s) (record_count s) (none 64) c
    followed =
        let h = headed s c v in
        follows s (twin s) (subst (λ n. 0 < n) count_same h.some) (head_length + length its_bits) ends (record_count s) (none 64) c
        (subst (Each (Pair s (twin s))) at_first_lem (no_records (Pair s (twin s)) s))
        (subst (λ x. records_verdict s (record_count s) x ≡ Ok c) at_first_lem h.rest)
        (subst (λ x. Holds (twin s) head_length (records_of s (record_count s) x)) at_first_lem records_held)
        (ap (λ x. head_length + length (records_of s (record_count s) x)) (sym at_first_lem))

    -- "With all second coordinates zero, an accepted edition 2 sheet answers as its edition 1 twin": the twin is accepted, with the same counts
    pub twin_accepted : verdict (twin s) ≡ Ok (under 0 c)
    unfolding verdict first_of pick refusal2_head refusal3
    twin_accepted =
        let e = ends.long in
        rw (le-ltb (8 * length (twin s)) head_length (omega arith), edition_one, ← count_same) followed.counted

    -- and it has the same records
    pub twin_records : SameRecords s (twin s) c
    twin_records = subst (SameRecords s (twin s)) followed.second (by_pairs s (twin s) c followed.pairs (accepted s c v).one_policy)
