-- The records that a host gives by their fields. A code is a number, a flag is 1 for true; an id of 0 is none. Assumes nothing.
use Rattle.std.specs.Prelude.{None, Option, Some}
use Rattle.std.specs.Prelude.{ℕ, Bool, not, ◌&&◌, cond, eqb, leb, Float}
use Rattle.components.specs.declared.Policy.{Policy}
use Rattle.components.specs.declared.Stop.{Stop}
use Rattle.components.specs.declared.Line.{Line}
use Rattle.components.specs.declared.Car.{Car}
use Rattle.components.specs.declared.Aboard.{Aboard}
use Rattle.components.specs.declared.Waiting.{Waiting}
use Rattle.components.specs.declared.Demand.{Demand}
use Rattle.components.specs.Codes.{strategy_of, traffic_of, phase_of, direction_of, mode_of}

abbrev pub is_set : ℕ → Bool
is_set n = not (eqb n 0)

unfoldable pub policy_of : ℕ → Float → ℕ → Float → Float → Float → Float → Float → Float → Policy
policy_of strategy rate traffic w0 w1 w2 w3 w4 w5 =
    record {
      strategy = strategy_of strategy;
      rate = rate;
      traffic = traffic_of traffic;
      w0 = w0;
      w1 = w1;
      w2 = w2;
      w3 = w3;
      w4 = w4;
      w5 = w5;
    }

-- "strategy 2 (0 ETD, 1 RSR, 2 SCAN)", "traffic 2 (0 idle, 1 up peak, 2 inter-floor, 3 down peak)"
unfoldable pub policy_known : ℕ → ℕ → Bool
policy_known strategy traffic = leb strategy 2 && leb traffic 3

unfoldable pub stop_of : ℕ → Float → Float → Stop
stop_of id along across = record { id = id; position = record { along = along; across = across } }

unfoldable pub line_of : ℕ → ℕ → Line
line_of id serves = record { id = id; serves = serves }

unfoldable pub aboard_of : ℕ → ℕ → Aboard
aboard_of car destination = record { car = car; destination = destination }

unfoldable pub waiting_of : ℕ → ℕ → ℕ → Float → ℕ → Waiting
waiting_of stop line destination weight wait = record { stop = stop; line = line; destination = destination; weight = weight; wait = wait }

unfoldable pub demand_of : ℕ → ℕ → ℕ → Demand
demand_of stop riding call = record { stop = stop; riding = riding; call = is_set call }

-- an optional double
unfoldable pub threshold_of : ℕ → Float → Option Float
threshold_of has x = cond (is_set has) (Some x) None

-- the stop is that of phases 1 and 2
unfoldable pub car_of : ℕ → ℕ → ℕ → ℕ → ℕ → ℕ → ℕ → ℕ → ℕ → ℕ → Float → Float → Float → Float → Float → ℕ → Float → ℕ → Float → ℕ → ℕ → ℕ → ℕ → Car
car_of id line phase stop target listed up down sweep mode position across speed capacity load
    hasbypassup bypassup hasbypassdown bypassdown transition dwell restricted calls =
    record {
      id = id;
      line = line;
      phase = phase_of phase stop;
      target = target;
      listed = is_set listed;
      up = is_set up;
      down = is_set down;
      direction = direction_of (is_set sweep);
      mode = mode_of (is_set mode);
      position = record { along = position; across = across };
      speed = speed;
      capacity = capacity;
      load = load;
      bypassup = threshold_of hasbypassup bypassup;
      bypassdown = threshold_of hasbypassdown bypassdown;
      transition = transition;
      dwell = dwell;
      restricted = restricted;
      calls = calls;
    }

-- "phase 3 (0 idle, .. 6 stopped)"
unfoldable pub phase_known : ℕ → Bool
phase_known phase = leb phase 6
