-- Two accepted byte lists that agree but in bars hold sheets that are alike but in bars; without a candidate limit the total of the second is no
-- lower. One more bar changes one cell, to the sentinel. Assumes nothing.
use Rattle.std.specs.Prelude.{Ok}
use Rattle.std.specs.Prelude.{ℕ, suc, ◌+◌, ◌-◌, ◌/◌, ◌%◌, ◌^◌, ◌≤◌, ◌<◌, ◌≡◌, true, List, ◌⊎◌, ◌≢◌}
use Rattle.std.proofs.Math.Path.{sym, ap, ap₂}
use Rattle.std.proofs.Common.{◌∙◌, subst, arith, eqb-true, eq-eqb}
use Rattle.std.proofs.Math.Dec.{eqb}
use Rattle.std.proofs.Math.Arith.{digits_div, digits_mod}
use Rattle.scale.specs.Scale.{sentinel}
use Rattle.bits.specs.Field.{bit_at, field_at, field_lt, field_split}
use Rattle.mask.specs.Mask.{has}
use Rattle.components.specs.Sheet.{Sheet}
use Rattle.components.specs.declared.Stop.{Stop}
use Rattle.components.specs.Points.{distance}
use Rattle.components.specs.declared.Kind.TheVariants as kind
use Rattle.layout.specs.declared.Counts.{Counts}
use Rattle.layout.specs.Table.{past, policy_limit_field, car_restricted_field, car_calls_field, closed_stop_field}
use Rattle.layout.specs.Offsets.{head_length, stop_start, line_start, car_start, aboard_start, waiting_start, demand_start, closed_start}
use Rattle.layout.specs.Offsets.{cars_from, aboards_from, record_length}
use Rattle.layout.specs.Records.{from, read, stop_of, line_of, car_of, aboard_of, waiting_of, demand_of, sheet_of, limit_of}
use Rattle.layout.specs.Verdict.{verdict}
use Rattle.accepted.specs.Accepted.{accepted}
use Rattle.assignment.specs.Candidates.{no_limit}
use Rattle.assignment.specs.Cells.{cell, answered_total}
use Rattle.alike.specs.Alike.{Alike, other}
use Rattle.alike.proofs.Bars as bars
use Rattle.bars.specs.Agree.{bar_bit, AgreeButBars, OneBar, one_agrees, field_same}
use Rattle.bars.proofs.Clear.{fits, bars_apart, clear_before, clear_after, clear_front, clear_calls}
use Rattle.bars.proofs.SameCounts.{counts_same}
use Rattle.bars.specs.SameRecords.{SameFields, policy_same, stop_same, line_same, aboard_same, waiting_same, demand_same, place_same, car_like}

-- ---- the bits of a mask

has_bit : (s : List ℕ) (at j : ℕ) → j < 64 → has (field_at s at 64) j ≡ eqb (bit_at s (at + j)) 1
unfolding has field_at bit_at
has_bit s at j l =
    let w : suc j + (63 - j) ≡ 64 = omega arith in
    let b : bit_at s (at + j) < 2 = omega arith in
    let e : field_at s at 64 / 2 ^ (63 - j) ≡ field_at s at (suc j) =
    ap (λ (n : ℕ). field_at s at n / 2 ^ (63 - j)) (sym w) ∙ ap (λ (n : ℕ). n / 2 ^ (63 - j)) (field_split s at (suc j) (63 - j))
    ∙ digits_div (field_at s at (suc j)) (field_lt s (at + suc j) (63 - j)) in
    ap (λ (n : ℕ). eqb (n % 2) 1) e ∙ ap (λ (n : ℕ). eqb n 1) (digits_mod (field_at s at j) b)

-- stop k is barred to car i
bar : (c : Counts) (s : List ℕ) (i k : ℕ) → k < 64 → has ((sheet_of s c).car i).restricted k ≡ eqb (bit_at s (bar_bit c i k)) 1
unfolding sheet_of car_of
bar c s i k l = has_bit s (car_start c i + (past c.across car_restricted_field).start) k l

module _ (first second : List ℕ) (c : Counts) (agree : AgreeButBars first second c) where
  -- ---- records with no bar

  before : (at n : ℕ) → at + n ≤ cars_from c → SameFields n (from first at) (from second at)
  before at n l o w m = field_same first second c agree (at + o) w (clear_before c (at + o) w (omega arith))

  after : (at n : ℕ) → aboards_from c ≤ at → SameFields n (from first at) (from second at)
  after at n l o w m = field_same first second c agree (at + o) w (clear_after c (at + o) w (omega arith))

  front : (i : ℕ) → i < c.cars → SameFields (past c.across car_restricted_field).start (from first (car_start c i)) (from second (car_start c i))
  front i l o w m = field_same first second c agree (car_start c i + o) w (clear_front c i o w l m)

  calls : (i : ℕ) → i < c.cars
      → read (from first (car_start c i)) (past c.across car_calls_field) ≡ read (from second (car_start c i)) (past c.across car_calls_field)
  calls i l =
      field_same first second c agree (car_start c i + (past c.across car_calls_field).start) 64
      (clear_calls c i (past c.across car_calls_field).start 64 l (omega arith) (omega arith))

  a_stop : (j : ℕ) → j < c.stops → (sheet_of first c).stop j ≡ (sheet_of second c).stop j
  unfolding sheet_of
  a_stop j l =
      stop_same (from first (stop_start c j)) (from second (stop_start c j)) c.across
      (before (stop_start c j) (record_length c.across kind.Stop) (omega (arith, fits (record_length c.across kind.Stop) j c.stops l)))

  place : (i : ℕ) → i < c.cars → ((sheet_of first c).car i).position ≡ ((sheet_of second c).car i).position
  unfolding sheet_of
  place i l = place_same (from first (car_start c i)) (from second (car_start c i)) c.across (front i l) (calls i l)

  -- ---- the sheets are alike but in bars

  -- the first sheet with the records of the second
  abbrev with_bars : Sheet
  with_bars = let t = sheet_of second c in other (sheet_of first c) t.stop t.line t.car t.aboard t.waiting t.demand t.closed

  alike : let t = sheet_of second c in
      Alike (sheet_of first c) t.stop t.line t.car t.aboard t.waiting t.demand t.closed
  unfolding sheet_of
  alike =
      record {
        a_stop = λ j l. let e = a_stop j l in record { id = ap (λ (x : Stop). x.id) e; along = ap (λ (x : Stop). x.position.along) e };
        a_line = λ j l.
            line_same (from first (line_start c j)) (from second (line_start c j)) (before (line_start c j) (record_length 0 kind.Line) (omega arith));
        a_car = λ i l. car_like (from first (car_start c i)) (from second (car_start c i)) c.across (front i l) (calls i l);
        a_rider = λ a l.
            aboard_same (from first (aboard_start c a)) (from second (aboard_start c a))
            (after (aboard_start c a) (record_length 0 kind.Aboard) (omega arith));
        a_waiter = λ w l.
            waiting_same (from first (waiting_start c w)) (from second (waiting_start c w))
            (after (waiting_start c w) (record_length 0 kind.Waiting) (omega arith));
        a_demand = λ d l.
            demand_same (from first (demand_start c d)) (from second (demand_start c d))
            (after (demand_start c d) (record_length 0 kind.Demand) (omega arith));
        a_closure = λ x l. after (closed_start c x) (record_length 0 kind.Closed) (omega arith) closed_stop_field.start closed_stop_field.width (omega arith);
        away = λ i j li lj. ap₂ distance (place i li) (ap (λ (x : Stop). x.position) (a_stop j lj));
        apart = λ j k lj lk. ap₂ distance (ap (λ (x : Stop). x.position) (a_stop j lj)) (ap (λ (x : Stop). x.position) (a_stop k lk));
      }

  other_sheet : c.policies ≡ 1 → with_bars ≡ sheet_of second c
  unfolding sheet_of
  other_sheet one =
      let e = policy_same (from first head_length) (from second head_length) (before head_length (record_length 0 kind.Policy) (omega arith)) in
      λ i. record {
        policy = e i;
        stops = c.stops;
        stop = λ j. stop_of c.across (from second (stop_start c j));
        lines = c.lines;
        line = λ j. line_of (from second (line_start c j));
        cars = c.cars;
        car = λ j. car_of c.across (from second (car_start c j));
        aboards = c.aboards;
        aboard = λ j. aboard_of (from second (aboard_start c j));
        waits = c.waits;
        waiting = λ j. waiting_of (from second (waiting_start c j));
        demands = c.demands;
        demand = λ j. demand_of (from second (demand_start c j));
        closures = c.closures;
        closed = λ j. read (from second (closed_start c j)) closed_stop_field;
      }

  pub limit_same : c.policies ≡ 1 → limit_of first ≡ limit_of second
  unfolding limit_of
  limit_same one = before head_length (record_length 0 kind.Policy) (omega arith) policy_limit_field.start policy_limit_field.width (omega arith)

  -- ---- the bars

  more : (i k : ℕ) → i < c.cars → k < 64 → has ((sheet_of first c).car i).restricted k ≡ true → has ((sheet_of second c).car i).restricted k ≡ true
  more i k li lk e =
      bar c second i k lk
      ∙ eq-eqb (bit_at second (bar_bit c i k)) 1 (agree.kept i k li lk (eqb-true (bit_at first (bar_bit c i k)) 1 (sym (bar c first i k lk) ∙ e)))

  -- ---- without a candidate limit

  grown : c.stops ≤ 64 → answered_total (sheet_of first c) no_limit ≤ answered_total with_bars no_limit
  unfolding sheet_of
  grown l =
      let t = sheet_of second c in
      bars.total_grows (sheet_of first c) t.stop t.line t.car t.aboard t.waiting t.demand t.closed alike
      (λ i j li lj. more i j li (omega arith))

  pub total_grows : (d : Counts) → verdict first ≡ Ok c → verdict second ≡ Ok d
      → answered_total (sheet_of first c) no_limit ≤ answered_total (sheet_of second d) no_limit
  total_grows d p q =
      let a = accepted first c p in
      subst (λ (e : Counts). answered_total (sheet_of first c) no_limit ≤ answered_total (sheet_of second e) no_limit)
      (counts_same first second c agree d p q)
      (subst (λ (t : Sheet). answered_total (sheet_of first c) no_limit ≤ answered_total t no_limit) (other_sheet a.one_policy)
      (grown a.small.stops))

  -- a cell whose own bar is the same
  unbarred : (a b : ℕ) → a < c.cars → b < c.stops → b < 64 → bit_at first (bar_bit c a b) ≡ bit_at second (bar_bit c a b)
      → cell (sheet_of first c) no_limit a b ≡ cell with_bars no_limit a b
  unfolding sheet_of
  unbarred a b la lb l e =
      let t = sheet_of second c in
      bars.cell_same (sheet_of first c) t.stop t.line t.car t.aboard t.waiting t.demand t.closed alike a b la lb
      (bar c first a b l ∙ ap (λ (n : ℕ). eqb n 1) e ∙ sym (bar c second a b l))

  pub cell_same : (d : Counts) → verdict first ≡ Ok c → verdict second ≡ Ok d
      → (a b : ℕ) → a < c.cars → b < c.stops → bit_at first (bar_bit c a b) ≡ bit_at second (bar_bit c a b)
      → cell (sheet_of first c) no_limit a b ≡ cell (sheet_of second d) no_limit a b
  cell_same d p q a b la lb e =
      let s = accepted first c p in
      let few = s.small.stops in
      unbarred a b la lb (omega arith) e
      ∙ ap (λ (t : Sheet). cell t no_limit a b) (other_sheet s.one_policy)
      ∙ ap (λ (x : Counts). cell (sheet_of second x) no_limit a b) (counts_same first second c agree d p q)

-- ---- one more bar

-- "without a limit one more bar changes one cell, to the sentinel"
module _ (first second : List ℕ) (c d : Counts) (i k : ℕ) (one : OneBar first second c i k)
    (p : verdict first ≡ Ok c) (q : verdict second ≡ Ok d) where
  agree : AgreeButBars first second c
  agree = one_agrees first second c i k one

  pub to_sentinel : cell (sheet_of second d) no_limit i k ≡ sentinel
  to_sentinel =
      subst (λ (x : Counts). cell (sheet_of second x) no_limit i k ≡ sentinel) (counts_same first second c agree d p q)
      (bars.cell_barred (sheet_of second c) no_limit i k (bar c second i k one.a_stop ∙ eq-eqb (bit_at second (bar_bit c i k)) 1 one.set))

  pub others_same : (a b : ℕ) → a < c.cars → b < c.stops → (a ≢ i) ⊎ (b ≢ k)
      → cell (sheet_of first c) no_limit a b ≡ cell (sheet_of second d) no_limit a b
  others_same a b la lb e =
      let few = (accepted first c p).small.stops in
      cell_same first second c agree d p q a b la lb (one.elsewhere (bar_bit c a b) (bars_apart c a b i k (omega arith) one.a_stop e))
