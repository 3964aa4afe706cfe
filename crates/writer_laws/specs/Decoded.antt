-- A record that was put is decoded as that record. A number below its field's bound comes back, as every number of its type is; a double comes back
-- that the format holds, as every double is, a NaN as the one NaN. In edition 1 a second coordinate is not written, and is read as 0. Assumes
-- nothing.
use Rattle.std.specs.Prelude.{None, Option, Some}
use Rattle.std.specs.Prelude.{ℕ, ◌^◌, ◌<◌, ◌≡◌, List, T, Float}
use Rattle.std.specs.Float.{binary64}
use Rattle.std.specs.Float.Ieee.{fits, of_bits}
use Rattle.components.specs.declared.Point.{Point}
use Rattle.components.specs.declared.Policy.{Policy}
use Rattle.components.specs.declared.Stop.{Stop}
use Rattle.components.specs.declared.Line.{Line}
use Rattle.components.specs.declared.Car.{Car}
use Rattle.components.specs.declared.Aboard.{Aboard}
use Rattle.components.specs.declared.Waiting.{Waiting}
use Rattle.components.specs.declared.Demand.{Demand}
use Rattle.layout.specs.Table.{policy_limit_field, closed_stop_field}
use Rattle.layout.specs.Records.{from, read, policy_of, stop_of, line_of, car_of, aboard_of, waiting_of, demand_of}
use Rattle.values.specs.Values.{phase_stop}
use Rattle.writer.specs.declared.Edition.{Edition}
use Rattle.writer.specs.declared.Edition.TheVariants.{First, Second}
use Rattle.writer_laws.specs.Run.{Item, policy, stop, line, car, aboard, waiting, demand, closed, across_of}

-- ---- values of their types

-- a double
abbrev pub Double : Float → Type 0
Double x = T (fits binary64 x)

abbrev pub PointFits : Point → Type 0
PointFits p = Double p.along × Double p.across

abbrev pub ThresholdFits : Option Float → Type 0
ThresholdFits None = Unit
ThresholdFits (Some x) = Double x

pub record PolicyFits (l : ℕ) (x : Policy) : Type 0 where
  pub limit : l < 2 ^ 16
  pub rate : Double x.rate
  pub w0 : Double x.w0
  pub w1 : Double x.w1
  pub w2 : Double x.w2
  pub w3 : Double x.w3
  pub w4 : Double x.w4
  pub w5 : Double x.w5

pub record StopFits (x : Stop) : Type 0 where
  pub id : x.id < 2 ^ 32
  pub position : PointFits x.position

pub record LineFits (x : Line) : Type 0 where
  pub id : x.id < 2 ^ 32
  pub serves : x.serves < 2 ^ 64

pub record CarFits (x : Car) : Type 0 where
  pub id : x.id < 2 ^ 32
  pub line : x.line < 2 ^ 32
  pub phase : phase_stop x.phase < 2 ^ 32
  pub target : x.target < 2 ^ 32
  pub position : PointFits x.position
  pub speed : Double x.speed
  pub capacity : Double x.capacity
  pub load : Double x.load
  pub bypassup : ThresholdFits x.bypassup
  pub bypassdown : ThresholdFits x.bypassdown
  pub transition : x.transition < 2 ^ 32
  pub dwell : x.dwell < 2 ^ 32
  pub restricted : x.restricted < 2 ^ 64
  pub calls : x.calls < 2 ^ 64

pub record AboardFits (x : Aboard) : Type 0 where
  pub car : x.car < 2 ^ 32
  pub destination : x.destination < 2 ^ 32

pub record WaitingFits (x : Waiting) : Type 0 where
  pub stop : x.stop < 2 ^ 32
  pub line : x.line < 2 ^ 32
  pub destination : x.destination < 2 ^ 32
  pub weight : Double x.weight
  pub wait : x.wait < 2 ^ 64

pub record DemandFits (x : Demand) : Type 0 where
  pub stop : x.stop < 2 ^ 32
  pub riding : x.riding < 2 ^ 16

abbrev pub ItemFits : Item → Type 0
ItemFits (policy l x) = PolicyFits l x
ItemFits (stop x) = StopFits x
ItemFits (line x) = LineFits x
ItemFits (car x) = CarFits x
ItemFits (aboard x) = AboardFits x
ItemFits (waiting x) = WaitingFits x
ItemFits (demand x) = DemandFits x
ItemFits (closed id) = id < 2 ^ 32

-- ---- what is read of an item that was put

-- a point in a sheet of an edition
abbrev pub point_in : Edition → Point → Point
point_in First p = record { along = p.along; across = of_bits binary64 0 }
point_in Second p = p

abbrev pub stop_in : Edition → Stop → Stop
stop_in e x = record { id = x.id; position = point_in e x.position }

abbrev pub car_in : Edition → Car → Car
car_in e x =
    record {
      id = x.id;
      line = x.line;
      phase = x.phase;
      target = x.target;
      listed = x.listed;
      up = x.up;
      down = x.down;
      direction = x.direction;
      mode = x.mode;
      position = point_in e x.position;
      speed = x.speed;
      capacity = x.capacity;
      load = x.load;
      bypassup = x.bypassup;
      bypassdown = x.bypassdown;
      transition = x.transition;
      dwell = x.dwell;
      restricted = x.restricted;
      calls = x.calls;
    }

-- the record that starts at bit at is the item
abbrev pub Decoded : Edition → List ℕ → ℕ → Item → Type 0
Decoded e t at (policy l x) = (policy_of (from t at) ≡ x) × (read (from t at) policy_limit_field ≡ l)
Decoded e t at (stop x) = stop_of (across_of e) (from t at) ≡ stop_in e x
Decoded e t at (line x) = line_of (from t at) ≡ x
Decoded e t at (car x) = car_of (across_of e) (from t at) ≡ car_in e x
Decoded e t at (aboard x) = aboard_of (from t at) ≡ x
Decoded e t at (waiting x) = waiting_of (from t at) ≡ x
Decoded e t at (demand x) = demand_of (from t at) ≡ x
Decoded e t at (closed id) = read (from t at) closed_stop_field ≡ id
