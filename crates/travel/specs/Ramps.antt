-- `travel_time` of eta.rs, a definition a term, with its order of operations and beside its lines. Request F-11: "`fma` rounds twice, while a direct
-- `mul_add` rounds once." d is the distance, v the speed at the start, m the top speed, a and b the rates of acceleration and deceleration. Assumes
-- nothing.
use Rattle.std.specs.Prelude.{Bool, ◌||◌, cond, Float}
use Rattle.std.specs.Float.{binary64}
use Rattle.std.specs.Float.Ieee.{of_bits, neg, lt, le}
use Rattle.fp.specs.Num.{zero, plus, minus, times, over, max_zero, fma, lesser}
use Rattle.multiply_add.specs.MulAdd.{mul_add}
use Rattle.square_root.specs.SquareRoot.{square_root}

-- 2.0
abbrev pub two : Float
two = of_bits binary64 0x4000_0000_0000_0000

-- `distance <= 0.0 || v_max <= 0.0 || accel <= 0.0 || decel <= 0.0`
unfoldable pub no_run : Float → Float → Float → Float → Bool
no_run d m a b = ((le d zero || le m zero) || le a zero) || le b zero

-- `v0.clamp(0.0, v_max)`: up to 0 where it is less, then down to v_max where that is less
unfoldable pub clamp_speed : Float → Float → Float
clamp_speed v m = lesser (cond (lt v zero) zero v) m

-- `let brake_d = v0 * v0 / (2.0 * decel);` and, of v_max, `let d_decel = v_max * v_max / (2.0 * decel);`
unfoldable pub brake_distance : Float → Float → Float
brake_distance v b = over (times v v) (times two b)

-- `let disc = (2.0 * distance).mul_add(-decel, v0 * v0).max(0.0);`, `return (v0 - disc.sqrt()) / decel;`
unfoldable pub brake_time : Float → Float → Float → Float
brake_time d v b = over (minus v (square_root (max_zero (mul_add (times two d) (neg b) (times v v))))) b

-- `crate::fp::fma(decel, v0 * v0, 2.0 * distance * accel * decel) / (accel + decel);`, `let v_peak = v_peak_sq.sqrt();`
unfoldable pub peak_speed : Float → Float → Float → Float → Float
peak_speed d v a b = square_root (over (fma b (times v v) (times (times (times two d) a) b)) (plus a b))

-- `(v_peak - v0) / accel + v_peak / decel`
unfoldable pub triangle_time : Float → Float → Float → Float → Float
triangle_time peak v a b = plus (over (minus peak v) a) (over peak b)

-- `let d_accel = crate::fp::fma(v_max, v_max, -(v0 * v0)) / (2.0 * accel);`
unfoldable pub ramp_distance : Float → Float → Float → Float
ramp_distance v m a = over (fma m m (neg (times v v))) (times two a)

-- `let d_cruise = distance - d_accel - d_decel;`
unfoldable pub cruise_distance : Float → Float → Float → Float → Float → Float
cruise_distance d v m a b = minus (minus d (ramp_distance v m a)) (brake_distance m b)

-- `(v_max - v0) / accel + d_cruise / v_max + v_max / decel`
unfoldable pub trapezoid_time : Float → Float → Float → Float → Float → Float
trapezoid_time d v m a b = plus (plus (over (minus m v) a) (over (cruise_distance d v m a b) m)) (over m b)

-- `if brake_d >= distance`, else `if v_peak <= v_max`
unfoldable pub run_time : Float → Float → Float → Float → Float → Float
run_time d v m a b =
    cond (le d (brake_distance v b)) (brake_time d v b)
    (cond (le (peak_speed d v a b) m) (triangle_time (peak_speed d v a b) v a b) (trapezoid_time d v m a b))

unfoldable pub seconds : Float → Float → Float → Float → Float → Float
seconds d v m a b = cond (no_run d m a b) zero (run_time d (clamp_speed v m) m a b)
