-- passprint::decision_line meets its contract.
use Rattle.passprint.specs.Lines.{decision_line}
use Rattle.text.specs.Text.{then}
use native.Mathlib.Omega.{arith}
use Rattle.passprint.proofs.decision_line.Goals as goal

pub returns : goal.returns
unfolding decision_line
returns c =
    let p = c.put-a.ensures in
    let q = c.put_decimal-b.ensures in
    let z = c.decision_end.ensures in
    (then p (then q.0 z.0), omega (arith, p.next, q.1, z.1))
