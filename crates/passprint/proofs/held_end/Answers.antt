-- passprint::held_end meets its contract.
use Rattle.passprint.specs.Lines.{held_end}
use Rattle.text.specs.Text.{then}
use native.Mathlib.Omega.{arith}
use Rattle.passprint.proofs.held_end.Goals as goal

pub returns : goal.returns
unfolding held_end
returns c =
    let p = c.put-a.ensures in
    let n = c.put_decimal-b.ensures in
    let z = c.put.ensures in
    (then p (then n.0 z), omega (arith, p.next, n.1, z.next))
