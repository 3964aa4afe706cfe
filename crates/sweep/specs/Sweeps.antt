-- Sweeps: sweep.rs, and SCAN's prepare_car. Assumes nothing.
use Rattle.std.specs.Prelude.{None, Option, Some}
use Rattle.std.specs.Prelude.{ℕ, ◌+◌, ◌*◌, Bool, cond, Float}
use Rattle.std.specs.Float.Ieee.{lt}
use Rattle.fp.specs.Num.{plus, minus, epsilon}
use Rattle.components.specs.declared.Direction.{Direction}
use Rattle.components.specs.declared.Direction.TheVariants.{Up, Down}
use Rattle.components.specs.declared.Mode.{Mode}
use Rattle.components.specs.declared.Mode.TheVariants.{Strict, Lenient}
use Rattle.components.specs.declared.Point.{Point}
use Rattle.components.specs.declared.Car.{Car}
use Rattle.components.specs.Codes.{direction_code, mode_code}
use Rattle.components.specs.Points.{distance}
use Rattle.sweep.specs.declared.Sweep.{Sweep}

-- the sweep that the sheet gives a car
abbrev pub sweep_of : Car → Sweep
sweep_of c = record { direction = c.direction; mode = c.mode }

-- SweepDirection::reversed
abbrev pub reversed : Direction → Direction
reversed Up = Down
reversed Down = Up

-- the same mode, the other way
abbrev pub turned_round : Sweep → Sweep
turned_round w = record { direction = reversed w.direction; mode = w.mode }

-- strictly ahead of the car at x: beyond x + 1e-9 going up, below x - 1e-9 going down
abbrev pub strictly_ahead : Direction → Float → Float → Bool
strictly_ahead Up x p = lt (plus x epsilon) p
strictly_ahead Down x p = lt p (minus x epsilon)

-- prepare_car: with demand strictly ahead the sweep goes on, strict; without, it turns round, lenient
unfoldable pub prepared : Sweep → Bool → Sweep
prepared w ahead =
    cond ahead (record { direction = w.direction; mode = Strict }) (record { direction = reversed w.direction; mode = Lenient })

-- the half of the shaft that a sweep takes stops from
abbrev pub accepts : Mode → Direction → Float → Float → Bool
accepts Strict d x p = strictly_ahead d x p
accepts Lenient Up x p = lt (minus x epsilon) p
accepts Lenient Down x p = lt p (plus x epsilon)

-- rank. F-12: a distance is of both coordinates, and "Directions .. use the first coordinate."
unfoldable pub sweep_rank : Sweep → Point → Point → Option Float
sweep_rank w x p = cond (accepts w.mode w.direction x.along p.along) (Some (distance x p)) None

-- "for each car record 2 × sweep + mode"
unfoldable pub sweep_code : Sweep → ℕ
sweep_code w = 2 * direction_code w.direction + mode_code w.mode
