-- Tables of ids: of the stops, cars, demands and closed landings before a record, the first field of each, kept as it was read. Assumes nothing.
use Rattle.std.specs.Prelude.{ℕ, ◌+◌, ◌*◌, ◌≤◌, ◌<◌, ◌≡◌, List, eqb, get_or, length}
use Rattle.std.proofs.Common.{ap}
use Rattle.laws.specs.Folds.{any_cong}
use Rattle.components.specs.declared.Kind.TheVariants.{Stop, Car, Demand, Closed}
use Rattle.layout.specs.declared.Counts.{Counts}
use Rattle.layout.specs.Offsets.{record_length, stops_from, cars_from, demands_from, closures_from}
use Rattle.layout.specs.Table.{first}
use Rattle.layout.specs.Records.{from, read}
use Rattle.layout.specs.Refusals.{seen}
use Rattle.fields.specs.Named.{contains}

-- a table starts with the ids of n records of a kind, len bits each from base
pub record Ids (s : List ℕ) (base len n : ℕ) (ids : List ℕ) : Type 0 where
  pub room : n ≤ length ids
  pub each : (i : ℕ) → i < n → get_or ids i 0 ≡ read (from s (base + len * i)) (first 32)

abbrev pub StopIds : List ℕ → Counts → List ℕ → Type 0
StopIds s c ids = Ids s (stops_from c) (record_length c.across Stop) c.stops ids

abbrev pub CarIds : List ℕ → Counts → List ℕ → Type 0
CarIds s c ids = Ids s (cars_from c) (record_length c.across Car) c.cars ids

abbrev pub DemandIds : List ℕ → Counts → List ℕ → Type 0
DemandIds s c ids = Ids s (demands_from c) (record_length c.across Demand) c.demands ids

abbrev pub ClosedIds : List ℕ → Counts → List ℕ → Type 0
ClosedIds s c ids = Ids s (closures_from c) (record_length c.across Closed) c.closures ids

-- the tables before a record, after those counted
pub record Tables (s : List ℕ) (c : Counts) (stops cars demands closures : List ℕ) : Type 0 where
  pub stop_ids : StopIds s c stops
  pub car_ids : CarIds s c cars
  pub demand_ids : DemandIds s c demands
  pub closed_ids : ClosedIds s c closures

-- what the ids contain was seen
pub contains_seen : (s : List ℕ) (base len n : ℕ) (ids : List ℕ) (id : ℕ) → Ids s base len n ids → contains ids n id ≡ seen s base len n id
unfolding contains seen
contains_seen s base len n ids id h = any_cong _ _ n (λ i l. ap (λ (x : ℕ). eqb x id) (h.each i l))
