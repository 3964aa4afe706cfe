-- replay_ranks::number meets its contract.
use Prim.Native.Nat.{◌+◌, ◌*◌}
use mathlib.Core.Path.{◌≡◌}
use native.Mathlib.Omega.{arith}
use Rattle.replay_ranks.proofs.number.Goals as goal

pub returns : goal.returns
returns c =
    let at = c.args.at in
    let e : 8 * at + 0 ≡ 8 * at = omega arith in
    rw e at c.field.ensures
