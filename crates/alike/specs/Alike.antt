-- Two sheets that a pass can hardly tell apart: as many records of each kind, and each record the same but in two things, second coordinates, as long
-- as every distance is the same, and the stops that are barred to a car. Assumes nothing.
use Rattle.std.specs.Prelude.{ℕ, ◌<◌, ◌≡◌}
use Rattle.components.specs.declared.Stop.{Stop}
use Rattle.components.specs.declared.Line.{Line}
use Rattle.components.specs.declared.Car.{Car}
use Rattle.components.specs.declared.Aboard.{Aboard}
use Rattle.components.specs.declared.Waiting.{Waiting}
use Rattle.components.specs.declared.Demand.{Demand}
use Rattle.components.specs.Points.{distance}
use Rattle.components.specs.Sheet.{Sheet}

-- one stop for another: the same id and the same first coordinate
pub record LikeStop (p q : Stop) : Type 0 where
  pub id : p.id ≡ q.id
  pub along : p.position.along ≡ q.position.along

-- one car for another: the same but in its second coordinate and in the stops that are barred to it
pub record LikeCar (c d : Car) : Type 0 where
  pub id : c.id ≡ d.id
  pub line : c.line ≡ d.line
  pub phase : c.phase ≡ d.phase
  pub target : c.target ≡ d.target
  pub listed : c.listed ≡ d.listed
  pub up : c.up ≡ d.up
  pub down : c.down ≡ d.down
  pub direction : c.direction ≡ d.direction
  pub mode : c.mode ≡ d.mode
  pub along : c.position.along ≡ d.position.along
  pub speed : c.speed ≡ d.speed
  pub capacity : c.capacity ≡ d.capacity
  pub load : c.load ≡ d.load
  pub bypassup : c.bypassup ≡ d.bypassup
  pub bypassdown : c.bypassdown ≡ d.bypassdown
  pub transition : c.transition ≡ d.transition
  pub dwell : c.dwell ≡ d.dwell
  pub calls : c.calls ≡ d.calls

-- a sheet with other records, as many of each kind
abbrev pub other : Sheet → (ℕ → Stop) → (ℕ → Line) → (ℕ → Car) → (ℕ → Aboard) → (ℕ → Waiting) → (ℕ → Demand) → (ℕ → ℕ) → Sheet
other s stop line car aboard waiting demand closed =
    record {
      policy = s.policy;
      stops = s.stops;
      stop = stop;
      lines = s.lines;
      line = line;
      cars = s.cars;
      car = car;
      aboards = s.aboards;
      aboard = aboard;
      waits = s.waits;
      waiting = waiting;
      demands = s.demands;
      demand = demand;
      closures = s.closures;
      closed = closed;
    }

-- below its counts such a sheet has like records, and every distance is the same
pub record Alike (s : Sheet) (stop : ℕ → Stop) (line : ℕ → Line) (car : ℕ → Car) (aboard : ℕ → Aboard) (waiting : ℕ → Waiting)
    (demand : ℕ → Demand) (closed : ℕ → ℕ) : Type 0 where
  pub a_stop : (j : ℕ) → j < s.stops → LikeStop (s.stop j) (stop j)
  pub a_line : (l : ℕ) → l < s.lines → s.line l ≡ line l
  pub a_car : (i : ℕ) → i < s.cars → LikeCar (s.car i) (car i)
  pub a_rider : (a : ℕ) → a < s.aboards → s.aboard a ≡ aboard a
  pub a_waiter : (w : ℕ) → w < s.waits → s.waiting w ≡ waiting w
  pub a_demand : (d : ℕ) → d < s.demands → s.demand d ≡ demand d
  pub a_closure : (x : ℕ) → x < s.closures → s.closed x ≡ closed x
  -- from a car to a stop, and from a stop to a stop
  pub away : (i j : ℕ) → i < s.cars → j < s.stops
      → distance (s.car i).position (s.stop j).position ≡ distance (car i).position (stop j).position
  pub apart : (j k : ℕ) → j < s.stops → k < s.stops
      → distance (s.stop j).position (s.stop k).position ≡ distance (stop j).position (stop k).position
