-- The records of a sheet from its bytes. Document 01: "Fields are packed bits, most significant first"; "A double is its 64 IEEE bits"; "\"Opt\" is a
-- present bit, then the field". A record is read through a function of an offset in it and a width; its fields are those of Table. An optional id
-- is the field itself: absent it is zero (refusal 8), and present it is not (refusal 9). Assumes nothing.
use Rattle.std.specs.Prelude.{None, Option, Some}
use Rattle.std.specs.Prelude.{ℕ, ◌+◌, Bool, cond, List, eqb, Float}
use Rattle.std.specs.Float.Ieee.{of_bits}
use Rattle.std.specs.Float.{binary64}
use Rattle.bits.specs.Field.{field_at}
use Rattle.components.specs.declared.Policy.{Policy}
use Rattle.components.specs.declared.Point.{Point}
use Rattle.components.specs.declared.Stop.{Stop}
use Rattle.components.specs.declared.Line.{Line}
use Rattle.components.specs.declared.Car.{Car}
use Rattle.components.specs.declared.Aboard.{Aboard}
use Rattle.components.specs.declared.Waiting.{Waiting}
use Rattle.components.specs.declared.Demand.{Demand}
use Rattle.components.specs.Codes.{strategy_of, traffic_of, phase_of, direction_of, mode_of}
use Rattle.components.specs.Sheet.{Sheet}
use Rattle.layout.specs.declared.Counts.{Counts}
use Rattle.layout.specs.Table.{Field, past, stop_across_field, car_across_field, policy_strategy_field, policy_limit_field, policy_rate_field, policy_traffic_field, policy_w0_field, policy_w1_field, policy_w2_field, policy_w3_field}
use Rattle.layout.specs.Table.{policy_w4_field, policy_w5_field, stop_id_field, stop_position_field, line_id_field, line_serves_field, car_id_field, car_line_field, car_phase_field, car_stop_field}
use Rattle.layout.specs.Table.{car_target_field, car_listed_field, car_up_field, car_down_field, car_sweep_field, car_mode_field, car_position_field, car_speed_field, car_capacity_field, car_load_field}
use Rattle.layout.specs.Table.{car_has_bypass_up_field, car_bypass_up_field, car_has_bypass_down_field, car_bypass_down_field, car_transition_field, car_dwell_field, car_restricted_field}
use Rattle.layout.specs.Table.{car_calls_field, aboard_car_field, aboard_destination_field, waiting_stop_field, waiting_line_field, waiting_destination_field, waiting_weight_field}
use Rattle.layout.specs.Table.{waiting_wait_field, demand_stop_field, demand_riding_field, demand_call_field, closed_stop_field}
use Rattle.layout.specs.Offsets.{head_length, stop_start, line_start, car_start, aboard_start, waiting_start, demand_start, closed_start}

-- what stands at an offset of a record, with a width
abbrev pub Fields : Type 0
Fields = ℕ → ℕ → ℕ

-- the record that starts at bit at
abbrev pub from : List ℕ → ℕ → Fields
from s at o w = field_at s (at + o) w

abbrev pub read : Fields → Field → ℕ
read f x = f x.start x.width

abbrev pub flag : Fields → Field → Bool
flag f x = eqb (read f x) 1

abbrev pub double : Fields → Field → Float
double f x = of_bits binary64 (read f x)

-- a present bit, and the double
abbrev pub optional : Fields → Field → Field → Option Float
optional f present x = cond (flag f present) (Some (double f x)) None

-- kind 1, policy. The limit stands apart: the sheet is without it
unfoldable pub policy_of : Fields → Policy
policy_of f =
    record {
      strategy = strategy_of (read f policy_strategy_field);
      rate = double f policy_rate_field;
      traffic = traffic_of (read f policy_traffic_field);
      w0 = double f policy_w0_field;
      w1 = double f policy_w1_field;
      w2 = double f policy_w2_field;
      w3 = double f policy_w3_field;
      w4 = double f policy_w4_field;
      w5 = double f policy_w5_field;
    }

-- a position and a second coordinate; of no bits it is 0, and so is the double
abbrev pub point : Fields → Field → Field → Point
point f along across = record { along = double f along; across = double f across }

-- kind 2, stop
unfoldable pub stop_of : ℕ → Fields → Stop
stop_of w f = record { id = read f stop_id_field; position = point f stop_position_field (stop_across_field w) }

-- kind 3, line
unfoldable pub line_of : Fields → Line
line_of f = record { id = read f line_id_field; serves = read f line_serves_field }

-- kind 4, car
unfoldable pub car_of : ℕ → Fields → Car
car_of w f =
    record {
      id = read f car_id_field;
      line = read f car_line_field;
      phase = phase_of (read f car_phase_field) (read f car_stop_field);
      target = read f car_target_field;
      listed = flag f car_listed_field;
      up = flag f car_up_field;
      down = flag f car_down_field;
      direction = direction_of (flag f car_sweep_field);
      mode = mode_of (flag f car_mode_field);
      position = point f car_position_field (car_across_field w);
      speed = double f (past w car_speed_field);
      capacity = double f (past w car_capacity_field);
      load = double f (past w car_load_field);
      bypassup = optional f (past w car_has_bypass_up_field) (past w car_bypass_up_field);
      bypassdown = optional f (past w car_has_bypass_down_field) (past w car_bypass_down_field);
      transition = read f (past w car_transition_field);
      dwell = read f (past w car_dwell_field);
      restricted = read f (past w car_restricted_field);
      calls = read f (past w car_calls_field);
    }

-- kind 5, aboard
unfoldable pub aboard_of : Fields → Aboard
aboard_of f = record { car = read f aboard_car_field; destination = read f aboard_destination_field }

-- kind 6, waiting
unfoldable pub waiting_of : Fields → Waiting
waiting_of f =
    record {
      stop = read f waiting_stop_field;
      line = read f waiting_line_field;
      destination = read f waiting_destination_field;
      weight = double f waiting_weight_field;
      wait = read f waiting_wait_field;
    }

-- kind 7, demand
unfoldable pub demand_of : Fields → Demand
demand_of f = record { stop = read f demand_stop_field; riding = read f demand_riding_field; call = flag f demand_call_field }

-- the sheet that bytes with these counts hold
unfoldable pub sheet_of : List ℕ → Counts → Sheet
sheet_of s c =
    record {
      policy = policy_of (from s head_length);
      stops = c.stops;
      stop = λ i. stop_of c.across (from s (stop_start c i));
      lines = c.lines;
      line = λ i. line_of (from s (line_start c i));
      cars = c.cars;
      car = λ i. car_of c.across (from s (car_start c i));
      aboards = c.aboards;
      aboard = λ i. aboard_of (from s (aboard_start c i));
      waits = c.waits;
      waiting = λ i. waiting_of (from s (waiting_start c i));
      demands = c.demands;
      demand = λ i. demand_of (from s (demand_start c i));
      closures = c.closures;
      closed = λ i. read (from s (closed_start c i)) closed_stop_field;
    }

-- the candidate limit: bits 48 to 63, so bytes 6 and 7
unfoldable pub limit_of : List ℕ → ℕ
limit_of s = read (from s head_length) policy_limit_field
