-- What document 01 says of every record of an accepted sheet, over the sheet without its bits: what is left where no refusal's condition holds.
-- Assumes nothing.
use Rattle.std.specs.Prelude.{None, Option, Some}
use Rattle.std.specs.Float.{Float}
use Rattle.std.specs.Prelude.{ℕ, ◌+◌, ◌*◌, ◌/◌, ◌≤◌, ◌<◌, ◌≡◌, Bool, true, false, List, ◌≢◌, length}
use Rattle.components.specs.Points.{is_placed}
use Rattle.fp.specs.Ranges.{is_speed, is_mass, is_threshold, is_tick_rate}
use Rattle.mask.specs.Mask.{past_stops}
use Rattle.components.specs.declared.Policy.{Policy}
use Rattle.components.specs.declared.Stop.{Stop}
use Rattle.components.specs.declared.Line.{Line}
use Rattle.components.specs.declared.Car.{Car}
use Rattle.components.specs.declared.Waiting.{Waiting}
use Rattle.components.specs.declared.Strategy.TheVariants as strategies
use Rattle.components.specs.declared.Phase.TheVariants as phases
use Rattle.components.specs.Cars.{is_moving, moving_target}
use Rattle.components.specs.Sheet.{Sheet}
use Rattle.layout.specs.declared.Counts.{Counts}
use Rattle.layout.specs.Offsets.{Small, end_of}
use Rattle.layout.specs.Records.{sheet_of, limit_of}

-- one of the first n records has this id
abbrev pub Found : (ℕ → ℕ) → ℕ → ℕ → Type 0
Found ids n id = (k : ℕ) × (k < n) × (ids k ≡ id)

-- no two of the first n records have the same id
abbrev pub Distinct : (ℕ → ℕ) → ℕ → Type 0
Distinct ids n = (a b : ℕ) → a < n → b < n → ids a ≡ ids b → a ≡ b

-- "thresholds 0 to 1,000", where present
abbrev pub is_threshold_or : Option Float → Bool
is_threshold_or None = true
is_threshold_or (Some x) = is_threshold x

pub record SoundPolicy (p : Policy) : Type 0 where
  pub strategy : p.strategy ≢ strategies.Unknown
  pub rate : is_tick_rate p.rate ≡ true
  pub w0 : is_mass p.w0 ≡ true
  pub w1 : is_mass p.w1 ≡ true
  pub w2 : is_mass p.w2 ≡ true
  pub w3 : is_mass p.w3 ≡ true
  pub w4 : is_mass p.w4 ≡ true
  pub w5 : is_mass p.w5 ≡ true

pub record SoundStop (p : Stop) : Type 0 where
  pub id : 0 < p.id
  pub position : is_placed p.position ≡ true

pub record SoundLine (s : Sheet) (l : Line) : Type 0 where
  pub id : 0 < l.id
  pub serves : past_stops l.serves s.stops ≡ false

pub record SoundCar (s : Sheet) (c : Car) : Type 0 where
  pub id : 0 < c.id
  pub line : Found (λ l. (s.line l).id) s.lines c.line
  pub phase : c.phase ≢ phases.Unknown
  -- the stop of phases 1 and 2 has an id
  pub moving : is_moving c.phase ≡ true → 0 < moving_target c.phase
  pub position : is_placed c.position ≡ true
  pub speed : is_speed c.speed ≡ true
  pub capacity : is_mass c.capacity ≡ true
  pub load : is_mass c.load ≡ true
  pub bypassup : is_threshold_or c.bypassup ≡ true
  pub bypassdown : is_threshold_or c.bypassdown ≡ true
  pub ticks : c.transition * 2 + c.dwell ≤ 4294967295
  pub restricted : past_stops c.restricted s.stops ≡ false
  pub calls : past_stops c.calls s.stops ≡ false

pub record SoundWaiting (s : Sheet) (w : Waiting) : Type 0 where
  pub stop : Found (λ j. (s.stop j).id) s.stops w.stop
  pub weight : is_mass w.weight ≡ true
  pub wait : w.wait ≤ 9007199254740992

-- over the sheet: how many records there are, and what holds of each
pub record SoundSheet (s : Sheet) : Type 0 where
  pub most_stops : s.stops ≤ 64
  pub most_lines : s.lines ≤ 8
  pub most_cars : s.cars ≤ 32
  pub most_aboards : s.aboards ≤ 512
  pub most_waits : s.waits ≤ 512
  -- "one a stop"
  pub most_demands : s.demands ≤ s.stops
  pub most_closures : s.closures ≤ s.stops
  pub policy : SoundPolicy s.policy
  pub stop : (j : ℕ) → j < s.stops → SoundStop (s.stop j)
  pub rising : (a b : ℕ) → a < b → b < s.stops → (s.stop a).id < (s.stop b).id
  pub line : (l : ℕ) → l < s.lines → SoundLine s (s.line l)
  pub line_ids : Distinct (λ l. (s.line l).id) s.lines
  pub car : (i : ℕ) → i < s.cars → SoundCar s (s.car i)
  pub car_ids : Distinct (λ i. (s.car i).id) s.cars
  pub aboard : (r : ℕ) → r < s.aboards → Found (λ i. (s.car i).id) s.cars (s.aboard r).car
  pub waiting : (r : ℕ) → r < s.waits → SoundWaiting s (s.waiting r)
  pub demand : (d : ℕ) → d < s.demands → Found (λ j. (s.stop j).id) s.stops (s.demand d).stop
  pub demand_stops : Distinct (λ d. (s.demand d).stop) s.demands
  pub closed : (x : ℕ) → x < s.closures → Found (λ j. (s.stop j).id) s.stops (s.closed x)
  pub closed_stops : Distinct s.closed s.closures

-- over the bytes and their counts
pub record Sound (s : List ℕ) (c : Counts) : Type 0 where
  pub small : Small c
  pub one_policy : c.policies ≡ 1
  -- "12, limit 0"
  pub limit : 0 < limit_of s
  -- the last record ends in the last byte
  pub whole : length s ≡ (end_of c + 7) / 8
  pub sheet : SoundSheet (sheet_of s c)
