-- vectors::field_case meets its contract.
use Prim.Native.Nat.{◌+◌, ◌-◌}
use mathlib.Core.Path.{◌≡◌}
use native.Mathlib.Omega.{arith}
use Rattle.vectors.proofs.field_case.Goals as goal

pub returns : goal.returns
returns c =
    let a = c.args in
    let e : a.at + 11 + a.n - (a.at + 11) ≡ a.n = omega arith in
    cc c.field-got.ensures.is
