-- The twin of a sheet of edition 2: the same records, written by edition 1's table. Document 02, F-12: "With all second coordinates zero, an accepted
-- edition 2 sheet answers as its edition 1 twin". Assumes nothing.
use Rattle.std.specs.Prelude.{ℕ, zero, suc, ◌+◌, ◌-◌, ◌<◌, ◌≡◌, List, [], ◌++◌}
use Rattle.fp.specs.Num as Num
use Rattle.components.specs.declared.Kind.{Kind}
use Rattle.components.specs.declared.Kind.TheVariants.{Policy, Stop, Line, Car, Aboard, Waiting, Demand, Closed, Unknown}
use Rattle.components.specs.declared.Point.{Point}
use Rattle.components.specs.declared.Stop as stop
use Rattle.components.specs.declared.Car as car
use Rattle.components.specs.Codes.{kind_of}
use Rattle.components.specs.Points.{point_of}
use Rattle.layout.specs.declared.Counts.{Counts}
use Rattle.layout.specs.Offsets.{head_length, body_from, body_length, across_bits, across_in, record_length, next, end_of}
use Rattle.layout.specs.Offsets.{stop_start, line_start, car_start, aboard_start, waiting_start, demand_start, closed_start}
use Rattle.layout.specs.Table.{head_edition_field, head_count_field, record_kind_field, record_stated_field, stop_across_field, car_across_field, closed_stop_field}
use Rattle.layout.specs.Records.{from, read, policy_of, stop_of, line_of, car_of, aboard_of, waiting_of, demand_of, limit_of}
use Rattle.layout.specs.Refusals.{record_count, kind_at}
use Rattle.layout.specs.Verdict.{at_first}
use Rattle.twins.specs.Written.{bits_of, digits, packed}

-- ---- what is written

-- where a record's second coordinate starts, "after the position"; a kind that has none ends there
abbrev pub across_from : Kind → ℕ
across_from Policy = record_length 0 Policy
across_from Stop = (stop_across_field 0).start
across_from Line = record_length 0 Line
across_from Car = (car_across_field 0).start
across_from Aboard = record_length 0 Aboard
across_from Waiting = record_length 0 Waiting
across_from Demand = record_length 0 Demand
across_from Closed = record_length 0 Closed
across_from Unknown = record_length 0 Unknown

-- the body of a record of kind k at bit at, without its second coordinate of w bits: what stands before it, and what stands after it
unfoldable pub body_of : List ℕ → ℕ → Kind → ℕ → List ℕ
body_of s w k at = bits_of s (at + body_from) (across_from k - body_from) ++ bits_of s (at + across_from k + w) (record_length 0 k - across_from k)

-- the length of that body
abbrev pub length_of : Kind → ℕ
length_of k = body_length k + across_in (across_bits 1) k

-- the record in edition 1: "kind 6 bits, body length in bits 16 bits, body"
unfoldable pub record_of : List ℕ → ℕ → Kind → ℕ → List ℕ
record_of s w k at = bits_of s at record_kind_field.width ++ (digits record_stated_field.width (length_of k) ++ body_of s w k at)

-- n records after those counted
unfoldable pub records_of : List ℕ → ℕ → Counts → List ℕ
records_of s zero c = []
records_of s (suc n) c = record_of s c.across (kind_of (kind_at s c)) (end_of c) ++ records_of s n (next c (kind_of (kind_at s c)))

-- "Head: edition 8 bits (1), record count 16 bits.", and all records
abbrev pub twin_bits : List ℕ → List ℕ
twin_bits s = digits head_edition_field.width 1 ++ (bits_of s head_count_field.start head_count_field.width ++ records_of s (record_count s) (at_first s))

-- its bytes: "0 to 7 zero bits up to the byte's end, then nothing"
unfoldable pub twin : List ℕ → List ℕ
twin s = packed (twin_bits s)

-- ---- what its records are

-- these counts in a sheet whose second coordinates have w bits
abbrev pub under : ℕ → Counts → Counts
under w c =
    record {
      across = w;
      policies = c.policies;
      stops = c.stops;
      lines = c.lines;
      cars = c.cars;
      aboards = c.aboards;
      waits = c.waits;
      demands = c.demands;
      closures = c.closures;
    }

-- a point with a second coordinate of zero, and a stop there
abbrev pub flat : Point → Point
flat p = point_of p.along Num.zero

abbrev pub flat_stop : stop.Stop → stop.Stop
flat_stop x = record { id = x.id; position = flat x.position }

-- a car at another point
abbrev pub moved : Point → car.Car → car.Car
moved p x =
    record {
      id = x.id;
      line = x.line;
      phase = x.phase;
      target = x.target;
      listed = x.listed;
      up = x.up;
      down = x.down;
      direction = x.direction;
      mode = x.mode;
      position = p;
      speed = x.speed;
      capacity = x.capacity;
      load = x.load;
      bypassup = x.bypassup;
      bypassdown = x.bypassdown;
      transition = x.transition;
      dwell = x.dwell;
      restricted = x.restricted;
      calls = x.calls;
    }

abbrev pub flat_car : car.Car → car.Car
flat_car x = moved (flat x.position) x

-- t of edition 1 has the records of s, of edition 2 with the counts c: each stop and car with a second coordinate of zero, and all else as it is
pub record SameRecords (s t : List ℕ) (c : Counts) : Type 0 where
  pub policy : policy_of (from s head_length) ≡ policy_of (from t head_length)
  pub limit : limit_of s ≡ limit_of t
  pub stop : (j : ℕ) → j < c.stops → flat_stop (stop_of c.across (from s (stop_start c j))) ≡ stop_of 0 (from t (stop_start (under 0 c) j))
  pub line : (i : ℕ) → i < c.lines → line_of (from s (line_start c i)) ≡ line_of (from t (line_start (under 0 c) i))
  pub car : (i : ℕ) → i < c.cars → flat_car (car_of c.across (from s (car_start c i))) ≡ car_of 0 (from t (car_start (under 0 c) i))
  pub aboard : (i : ℕ) → i < c.aboards → aboard_of (from s (aboard_start c i)) ≡ aboard_of (from t (aboard_start (under 0 c) i))
  pub waiting : (i : ℕ) → i < c.waits → waiting_of (from s (waiting_start c i)) ≡ waiting_of (from t (waiting_start (under 0 c) i))
  pub demand : (i : ℕ) → i < c.demands → demand_of (from s (demand_start c i)) ≡ demand_of (from t (demand_start (under 0 c) i))
  pub closed : (i : ℕ) → i < c.closures → read (from s (closed_start c i)) closed_stop_field ≡ read (from t (closed_start (under 0 c) i)) closed_stop_field
