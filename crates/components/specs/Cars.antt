-- What is asked of a car and its phase. Assumes nothing.
use Rattle.std.specs.Prelude.{Bool, true, false, ℕ, Float}
use Rattle.fp.specs.Num.{minus}
use Rattle.components.specs.declared.Phase.{Phase}
use Rattle.components.specs.declared.Phase.TheVariants.{Idle, MovingToStop, Repositioning, DoorOpening, Loading, DoorClosing, Stopped, Unknown}
use Rattle.components.specs.declared.Car.{Car}

-- the stop of a moving phase, 0 for none
abbrev pub moving_target : Phase → ℕ
moving_target Idle = 0
moving_target (MovingToStop s) = s
moving_target (Repositioning s) = s
moving_target DoorOpening = 0
moving_target Loading = 0
moving_target DoorClosing = 0
moving_target Stopped = 0
moving_target Unknown = 0

abbrev pub is_moving : Phase → Bool
is_moving Idle = false
is_moving (MovingToStop s) = true
is_moving (Repositioning s) = true
is_moving DoorOpening = false
is_moving Loading = false
is_moving DoorClosing = false
is_moving Stopped = false
is_moving Unknown = false

abbrev pub is_idle : Phase → Bool
is_idle Idle = true
is_idle (MovingToStop s) = false
is_idle (Repositioning s) = false
is_idle DoorOpening = false
is_idle Loading = false
is_idle DoorClosing = false
is_idle Stopped = false
is_idle Unknown = false

-- "Cars serve a stop if it is their target and their phase is 1, 3, 4 or 5."
abbrev pub servicing : Phase → Bool
servicing Idle = false
servicing (MovingToStop s) = true
servicing (Repositioning s) = false
servicing DoorOpening = true
servicing Loading = true
servicing DoorClosing = true
servicing Stopped = false
servicing Unknown = false

-- "remaining capacities (capacity less load)"
abbrev pub remaining : Car → Float
remaining c = minus c.capacity c.load
