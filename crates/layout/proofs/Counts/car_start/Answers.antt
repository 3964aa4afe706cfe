-- layout::Counts::car_start meets its contract.
use Prim.Native.Nat.{◌+◌}
use Rattle.layout.specs.VerdictLaws.{before_all}
use native.Mathlib.Omega.{arith}
use Rattle.layout.proofs.Counts.car_start.Goals as goal

pub overflow_mul-result : goal.overflow_mul-result
overflow_mul-result c =
    let a = c.args in
    let h = c.requires in omega (arith, h.0.car_bits, before_all (737 + a.self.across) a.i a.self.cars h.1)

pub overflow_add-result-2 : goal.overflow_add-result-2
overflow_add-result-2 c =
    let a = c.args in
    let h = c.requires in
    omega (arith, h.0.car_bits, h.0.policies, h.0.lines, h.0.stop_bits, before_all (737 + a.self.across) a.i a.self.cars h.1)
