-- Where records stand. Document 01: "Each record: kind 6 bits, body length in bits 16 bits, body." Every kind has one length and kinds never fall, so
-- the counts fix where each record starts. Assumes nothing.
use Rattle.std.specs.Prelude.{ℕ, ◌+◌, ◌*◌, ◌≤◌, ◌≡◌, refl, cond, eqb, ltb}
use Rattle.components.specs.declared.Kind.{Kind}
use Rattle.components.specs.declared.Kind.TheVariants.{Policy, Stop, Line, Car, Aboard, Waiting, Demand, Closed, Unknown}
use Rattle.components.specs.Codes.{kind_code}
use Rattle.layout.specs.declared.Counts.{Counts}

-- the column "Bits": the length of a kind's body in edition 1
abbrev pub body_length : Kind → ℕ
body_length Policy = 468
body_length Stop = 96
body_length Line = 96
body_length Car = 715
body_length Aboard = 65
body_length Waiting = 226
body_length Demand = 49
body_length Closed = 32
body_length Unknown = 0

-- Of request F-12: "Edition 2 of the sheet gives stops and cars a second coordinate after the position, same range". Its bits in a sheet of an
-- edition, none but in edition 2
abbrev pub across_bits : ℕ → ℕ
across_bits e = cond (eqb e 2) 64 0

-- the bits of a second coordinate of w bits in a body: a stop and a car have one
abbrev pub across_in : ℕ → Kind → ℕ
across_in w Policy = 0
across_in w Stop = w
across_in w Line = 0
across_in w Car = w
across_in w Aboard = 0
across_in w Waiting = 0
across_in w Demand = 0
across_in w Closed = 0
across_in w Unknown = 0

-- "160 and 779 bits"
pub second_lengths : (body_length Stop + across_in (across_bits 2) Stop ≡ 160) × (body_length Car + across_in (across_bits 2) Car ≡ 779)
second_lengths = (refl, refl)

-- before the first record, of a sheet whose second coordinates have w bits
abbrev pub none : ℕ → Counts
none w = record { across = w; policies = 0; stops = 0; lines = 0; cars = 0; aboards = 0; waits = 0; demands = 0; closures = 0 }

-- one record more
abbrev pub next : Counts → Kind → Counts
next c Policy =
    record {
      across = c.across;
      policies = c.policies + 1;
      stops = c.stops;
      lines = c.lines;
      cars = c.cars;
      aboards = c.aboards;
      waits = c.waits;
      demands = c.demands;
      closures = c.closures;
    }
next c Stop =
    record {
      across = c.across;
      policies = c.policies;
      stops = c.stops + 1;
      lines = c.lines;
      cars = c.cars;
      aboards = c.aboards;
      waits = c.waits;
      demands = c.demands;
      closures = c.closures;
    }
next c Line =
    record {
      across = c.across;
      policies = c.policies;
      stops = c.stops;
      lines = c.lines + 1;
      cars = c.cars;
      aboards = c.aboards;
      waits = c.waits;
      demands = c.demands;
      closures = c.closures;
    }
next c Car =
    record {
      across = c.across;
      policies = c.policies;
      stops = c.stops;
      lines = c.lines;
      cars = c.cars + 1;
      aboards = c.aboards;
      waits = c.waits;
      demands = c.demands;
      closures = c.closures;
    }
next c Aboard =
    record {
      across = c.across;
      policies = c.policies;
      stops = c.stops;
      lines = c.lines;
      cars = c.cars;
      aboards = c.aboards + 1;
      waits = c.waits;
      demands = c.demands;
      closures = c.closures;
    }
next c Waiting =
    record {
      across = c.across;
      policies = c.policies;
      stops = c.stops;
      lines = c.lines;
      cars = c.cars;
      aboards = c.aboards;
      waits = c.waits + 1;
      demands = c.demands;
      closures = c.closures;
    }
next c Demand =
    record {
      across = c.across;
      policies = c.policies;
      stops = c.stops;
      lines = c.lines;
      cars = c.cars;
      aboards = c.aboards;
      waits = c.waits;
      demands = c.demands + 1;
      closures = c.closures;
    }
next c Closed =
    record {
      across = c.across;
      policies = c.policies;
      stops = c.stops;
      lines = c.lines;
      cars = c.cars;
      aboards = c.aboards;
      waits = c.waits;
      demands = c.demands;
      closures = c.closures + 1;
    }
next c Unknown = c

-- "Head: edition 8 bits (1), record count 16 bits."
abbrev pub head_length : ℕ
head_length = 24

-- "Each record: kind 6 bits, body length in bits 16 bits, body.": what stands before the body
abbrev pub body_from : ℕ
body_from = 22

-- a record's length, where second coordinates have w bits
abbrev pub record_length : ℕ → Kind → ℕ
record_length w k = body_from + body_length k + across_in w k

-- the counts within the table; of demands and of closures there is one a stop, but a bound by the record count is all that offsets need
pub record Small (c : Counts) : Type 0 where
  pub across : c.across ≤ 64
  pub policies : c.policies ≤ 1
  pub stops : c.stops ≤ 64
  pub lines : c.lines ≤ 8
  pub cars : c.cars ≤ 32
  pub aboards : c.aboards ≤ 512
  pub waits : c.waits ≤ 512
  pub demands : c.demands ≤ 65535
  pub closures : c.closures ≤ 65535
  -- what follows of the bits of all stops and of all cars
  pub stop_bits : record_length c.across Stop * c.stops ≤ 182 * 64
  pub car_bits : record_length c.across Car * c.cars ≤ 801 * 32

-- where the records of each kind start: the policy after the head, each further kind after the one before it
abbrev pub stops_from : Counts → ℕ
stops_from c = head_length + record_length c.across Policy * c.policies

abbrev pub lines_from : Counts → ℕ
lines_from c = stops_from c + record_length c.across Stop * c.stops

abbrev pub cars_from : Counts → ℕ
cars_from c = lines_from c + record_length c.across Line * c.lines

abbrev pub aboards_from : Counts → ℕ
aboards_from c = cars_from c + record_length c.across Car * c.cars

abbrev pub waits_from : Counts → ℕ
waits_from c = aboards_from c + record_length c.across Aboard * c.aboards

abbrev pub demands_from : Counts → ℕ
demands_from c = waits_from c + record_length c.across Waiting * c.waits

abbrev pub closures_from : Counts → ℕ
closures_from c = demands_from c + record_length c.across Demand * c.demands

-- where the record with index i of each kind starts
abbrev pub stop_start : Counts → ℕ → ℕ
stop_start c i = stops_from c + record_length c.across Stop * i

abbrev pub line_start : Counts → ℕ → ℕ
line_start c i = lines_from c + record_length c.across Line * i

abbrev pub car_start : Counts → ℕ → ℕ
car_start c i = cars_from c + record_length c.across Car * i

abbrev pub aboard_start : Counts → ℕ → ℕ
aboard_start c i = aboards_from c + record_length c.across Aboard * i

abbrev pub waiting_start : Counts → ℕ → ℕ
waiting_start c i = waits_from c + record_length c.across Waiting * i

abbrev pub demand_start : Counts → ℕ → ℕ
demand_start c i = demands_from c + record_length c.across Demand * i

abbrev pub closed_start : Counts → ℕ → ℕ
closed_start c i = closures_from c + record_length c.across Closed * i

-- where the next record starts
abbrev pub end_of : Counts → ℕ
end_of c = closures_from c + record_length c.across Closed * c.closures

-- the code of the last record's kind, 0 before the first
unfoldable pub last_kind : Counts → ℕ
last_kind c =
    cond (ltb 0 c.closures) (kind_code Closed)
    (cond (ltb 0 c.demands) (kind_code Demand)
    (cond (ltb 0 c.waits) (kind_code Waiting)
    (cond (ltb 0 c.aboards) (kind_code Aboard)
    (cond (ltb 0 c.cars) (kind_code Car)
    (cond (ltb 0 c.lines) (kind_code Line)
    (cond (ltb 0 c.stops) (kind_code Stop)
    (cond (ltb 0 c.policies) (kind_code Policy)
    0)))))))
