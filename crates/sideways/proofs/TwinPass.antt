-- Document 02, F-12: "With all second coordinates zero, an accepted edition 2 sheet answers as its edition 1 twin". Assumes nothing.
use Rattle.std.specs.Prelude.{Ok, Result}
use Rattle.layout.specs.declared.Refusal.{Refusal}
use Rattle.layout.specs.Refused.{refused}
use Rattle.std.specs.Prelude.{ℕ, ◌<◌, ◌≡◌, Bool, true, false, cond, List, length}
use Rattle.std.proofs.Common.{sym, ◌∙◌}
use Rattle.std.proofs.Math.Path.{ap, ap₂}
use Rattle.fp.specs.Num.{plus, apart}
use Rattle.components.specs.declared.Point.{Point}
use Rattle.components.specs.declared.Stop.{Stop}
use Rattle.components.specs.declared.Car.{Car}
use Rattle.components.specs.Points.{distance}
use Rattle.components.specs.Sheet.{Sheet}
use Rattle.layout.specs.declared.Counts.{Counts}
use Rattle.layout.specs.Table.{closed_stop_field}
use Rattle.layout.specs.Offsets.{stop_start, line_start, car_start, aboard_start, waiting_start, demand_start, closed_start}
use Rattle.layout.specs.Records.{from, read, stop_of, line_of, car_of, aboard_of, waiting_of, demand_of, sheet_of, limit_of}
use Rattle.layout.specs.Refusals.{edition}
use Rattle.layout.specs.Verdict.{verdict}
use Rattle.layout.specs.Readings.{refused≢accepted}
use Rattle.outcome.specs.Outcome.{refusal1, outcome}
use Rattle.alike.specs.Alike.{Alike, LikeStop, LikeCar, other}
use Rattle.alike.specs.Zeros.{is_zero, apart_zeros}
use Rattle.bench.specs.Done.{Lent, lent, outcome_of, written, done_of, pass_of, past_one}
use Rattle.twins.specs.Twin.{twin, under, flat, flat_stop, flat_car, SameRecords}
use Rattle.twins.proofs.Twins.{twin_accepted, twin_records}
use Rattle.sideways.specs.Written.{same_written}
use Rattle.sideways.specs.TwinPass.{Level}

-- the distance of two points whose second coordinates are zero
flat_distance : (p q : Point) → is_zero p.across ≡ true → is_zero q.across ≡ true → distance p q ≡ distance (flat p) (flat q)
unfolding distance
flat_distance p q a b = ap (plus (apart p.along q.along)) (apart_zeros p.across q.across a b)

module _ (s t : List ℕ) (c : Counts) (r : SameRecords s t c) (level : Level (sheet_of s c)) where
  -- the twin's sheet
  abbrev d : Counts
  d = under 0 c

  stop_is : (j : ℕ) → j < c.stops → flat_stop ((sheet_of s c).stop j) ≡ (sheet_of t d).stop j
  unfolding sheet_of
  stop_is j l = r.stop j l

  car_is : (i : ℕ) → i < c.cars → flat_car ((sheet_of s c).car i) ≡ (sheet_of t d).car i
  unfolding sheet_of
  car_is i l = r.car i l

  like_stop : {p q : Stop} → flat_stop p ≡ q → LikeStop p q
  like_stop e = record { id = ap (λ (x : Stop). x.id) e; along = ap (λ (x : Stop). x.position.along) e }

  like_car : {p q : Car} → flat_car p ≡ q → LikeCar p q
  like_car e =
      record {
        id = ap (λ (x : Car). x.id) e;
        line = ap (λ (x : Car). x.line) e;
        phase = ap (λ (x : Car). x.phase) e;
        target = ap (λ (x : Car). x.target) e;
        listed = ap (λ (x : Car). x.listed) e;
        up = ap (λ (x : Car). x.up) e;
        down = ap (λ (x : Car). x.down) e;
        direction = ap (λ (x : Car). x.direction) e;
        mode = ap (λ (x : Car). x.mode) e;
        along = ap (λ (x : Car). x.position.along) e;
        speed = ap (λ (x : Car). x.speed) e;
        capacity = ap (λ (x : Car). x.capacity) e;
        load = ap (λ (x : Car). x.load) e;
        bypassup = ap (λ (x : Car). x.bypassup) e;
        bypassdown = ap (λ (x : Car). x.bypassdown) e;
        transition = ap (λ (x : Car). x.transition) e;
        dwell = ap (λ (x : Car). x.dwell) e;
        calls = ap (λ (x : Car). x.calls) e;
      }

  twin_alike : Alike (sheet_of s c) (sheet_of t d).stop (sheet_of t d).line (sheet_of t d).car (sheet_of t d).aboard (sheet_of t d).waiting
      (sheet_of t d).demand (sheet_of t d).closed
  unfolding sheet_of
  twin_alike =
      record {
        a_stop = λ j l. like_stop (stop_is j l);
        a_line = λ i l. r.line i l;
        a_car = λ i l. like_car (car_is i l);
        a_rider = λ i l. r.aboard i l;
        a_waiter = λ i l. r.waiting i l;
        a_demand = λ i l. r.demand i l;
        a_closure = λ i l. r.closed i l;
        away = λ i j li lj.
            flat_distance ((sheet_of s c).car i).position ((sheet_of s c).stop j).position (level.car i li) (level.stop j lj)
            ∙ ap₂ (λ (x : Car) (y : Stop). distance x.position y.position) (car_is i li) (stop_is j lj);
        apart = λ j k lj lk.
            flat_distance ((sheet_of s c).stop j).position ((sheet_of s c).stop k).position (level.stop j lj) (level.stop k lk)
            ∙ ap₂ (λ (x y : Stop). distance x.position y.position) (stop_is j lj) (stop_is k lk);
      }

  -- the twin's sheet but for its policy, which is the same
  other_is : other (sheet_of s c) (sheet_of t d).stop (sheet_of t d).line (sheet_of t d).car (sheet_of t d).aboard (sheet_of t d).waiting
      (sheet_of t d).demand (sheet_of t d).closed
      ≡ sheet_of t d
  unfolding sheet_of
  other_is =
      λ i. record {
        policy = r.policy i;
        stops = c.stops;
        stop = λ j. stop_of 0 (from t (stop_start d j));
        lines = c.lines;
        line = λ j. line_of (from t (line_start d j));
        cars = c.cars;
        car = λ j. car_of 0 (from t (car_start d j));
        aboards = c.aboards;
        aboard = λ j. aboard_of (from t (aboard_start d j));
        waits = c.waits;
        waiting = λ j. waiting_of (from t (waiting_start d j));
        demands = c.demands;
        demand = λ j. demand_of (from t (demand_start d j));
        closures = c.closures;
        closed = λ j. read (from t (closed_start d j)) closed_stop_field;
      }

  pub same_pass : (x : Lent) → written (sheet_of s c) (limit_of s) x ≡ written (sheet_of t d) (limit_of t) x
  unfolding sheet_of
  same_pass x =
      same_written (sheet_of s c) (sheet_of t d).stop (sheet_of t d).line (sheet_of t d).car (sheet_of t d).aboard (sheet_of t d).waiting
      (sheet_of t d).demand (sheet_of t d).closed twin_alike
      (λ i l. ap (λ (z : Car). z.restricted) (car_is i l)) (limit_of s) x
      ∙ ap₂ (λ (z : Sheet) (l : ℕ). written z l x) other_is r.limit

-- of the bytes and whatever the buffers held: it "answers as its edition 1 twin", and leaves what its twin leaves
pub twin_pass : (s decisions cells sweeps : List ℕ) (c : Counts) → outcome_of (lent s decisions cells sweeps) ≡ Ok c → edition s ≡ 2
    → Level (sheet_of s c)
    → pass_of (lent s decisions cells sweeps) ≡ pass_of (lent (twin s) decisions cells sweeps)
unfolding outcome
twin_pass s decisions cells sweeps c e two level =
    let x = lent s decisions cells sweeps in
    let y = lent (twin s) decisions cells sweeps in
    let b = refusal1 (length decisions) (length cells) (length sweeps) in
    let v : verdict s ≡ Ok c = past_one b e in
    let w : verdict (twin s) ≡ Ok (under 0 c) = twin_accepted s c v two in
    let f : outcome_of y ≡ Ok (under 0 c) = past_both b (verdict s) e w in
    ap (λ (z : Result Counts Refusal). done_of z x) e
    ∙ same_pass s (twin s) c (twin_records s c v two) level x
    ∙ sym (ap (λ (z : Result Counts Refusal). done_of z y) f)
  where
    past_both : (b : Bool) (v : Result Counts Refusal) {w : Result Counts Refusal} {c d : Counts} → cond b (refused 1 0) v ≡ Ok c → w ≡ Ok d → cond b (refused 1 0) w ≡ Ok d
    past_both true v h k = absurd (refused≢accepted h)
    past_both false v h k = k
