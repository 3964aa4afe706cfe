-- The numbers that a record's fields stand for, in the order of Table's rows: what Records reads, the other way round. "An optional field is a
-- present bit and the field, zeros where absent": an id of 0 is none. A double is its 64 bits; every NaN is one NaN, and has the bits of the quiet
-- one. Assumes nothing.
use Rattle.std.specs.Prelude.{None, Option, Some}
use Rattle.std.specs.Prelude.{ℕ, ◌≡◌, refl, Bool, true, false, not, List, [], ◌∷◌, eqb, Float}
use Rattle.std.specs.Float.{binary64}
use Rattle.std.specs.Int.{from_bool}
use Rattle.std.specs.Float.Ieee.{to_bits}
use Rattle.laws.specs.Bools.{bit}
use Rattle.components.specs.declared.Policy.{Policy}
use Rattle.components.specs.declared.Stop.{Stop}
use Rattle.components.specs.declared.Line.{Line}
use Rattle.components.specs.declared.Car.{Car}
use Rattle.components.specs.declared.Aboard.{Aboard}
use Rattle.components.specs.declared.Waiting.{Waiting}
use Rattle.components.specs.declared.Demand.{Demand}
use Rattle.components.specs.declared.Phase.{Phase}
use Rattle.components.specs.declared.Phase.TheVariants as phase
use Rattle.components.specs.Codes.{strategy_code, traffic_code, phase_code, direction_code, mode_code}

-- the 64 bits of a double
abbrev pub bits_of : Float → ℕ
bits_of x = to_bits binary64 x

-- what a flag converts to
pub bit_is : (b : Bool) → from_bool b ≡ bit b
bit_is true = refl
bit_is false = refl

-- the present bit of an optional id
abbrev pub present : ℕ → ℕ
present id = bit (not (eqb id 0))

-- "stop of phases 1 and 2", else zeros
abbrev pub phase_stop : Phase → ℕ
phase_stop phase.Idle = 0
phase_stop (phase.MovingToStop id) = id
phase_stop (phase.Repositioning id) = id
phase_stop phase.DoorOpening = 0
phase_stop phase.Loading = 0
phase_stop phase.DoorClosing = 0
phase_stop phase.Stopped = 0
phase_stop phase.Unknown = 0

-- the present bit of a threshold, and its bits
abbrev pub threshold_present : Option Float → ℕ
threshold_present None = 0
threshold_present (Some x) = 1

abbrev pub threshold_bits : Option Float → ℕ
threshold_bits None = 0
threshold_bits (Some x) = bits_of x

-- kind 1, policy, with the limit beside it
unfoldable pub policy_values : ℕ → Policy → List ℕ
policy_values limit p =
    strategy_code p.strategy ∷ limit ∷ bits_of p.rate ∷ traffic_code p.traffic ∷ bits_of p.w0 ∷ bits_of p.w1 ∷ bits_of p.w2
    ∷ bits_of p.w3 ∷ bits_of p.w4 ∷ bits_of p.w5 ∷ []

-- kind 2, stop; the second coordinate goes into a field of 64 bits in edition 2, of none in edition 1
unfoldable pub stop_values : Stop → List ℕ
stop_values x = x.id ∷ bits_of x.position.along ∷ bits_of x.position.across ∷ []

-- kind 3, line
unfoldable pub line_values : Line → List ℕ
line_values x = x.id ∷ x.serves ∷ []

-- kind 4, car
unfoldable pub car_values : Car → List ℕ
car_values x =
    x.id ∷ x.line ∷ phase_code x.phase ∷ phase_stop x.phase ∷ present x.target ∷ x.target ∷ bit x.listed ∷ bit x.up
    ∷ bit x.down ∷ direction_code x.direction ∷ mode_code x.mode ∷ bits_of x.position.along ∷ bits_of x.position.across
    ∷ bits_of x.speed ∷ bits_of x.capacity ∷ bits_of x.load ∷ threshold_present x.bypassup ∷ threshold_bits x.bypassup
    ∷ threshold_present x.bypassdown ∷ threshold_bits x.bypassdown ∷ x.transition ∷ x.dwell ∷ x.restricted ∷ x.calls ∷ []

-- kind 5, aboard
unfoldable pub aboard_values : Aboard → List ℕ
aboard_values x = x.car ∷ present x.destination ∷ x.destination ∷ []

-- kind 6, waiting
unfoldable pub waiting_values : Waiting → List ℕ
waiting_values x =
    x.stop ∷ present x.line ∷ x.line ∷ present x.destination ∷ x.destination ∷ bits_of x.weight ∷ x.wait ∷ []

-- kind 7, demand
unfoldable pub demand_values : Demand → List ℕ
demand_values x = x.stop ∷ x.riding ∷ bit x.call ∷ []

-- kind 8, closed: a stop's id
unfoldable pub closed_values : ℕ → List ℕ
closed_values id = id ∷ []
