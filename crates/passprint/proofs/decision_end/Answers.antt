-- passprint::decision_end meets its contract.
use Rattle.passprint.specs.LineLaws.{idle_end_lem, stop_end}
use Rattle.text.specs.Text.{then}
use native.Mathlib.Omega.{arith}
use Rattle.passprint.proofs.decision_end.Goals as goal

pub returns-then-stop-eq0 : goal.returns-then-stop-eq0
returns-then-stop-eq0 c =
    let p = c.put.ensures in
    (idle_end_lem _ c.if-stop-eq0.true p, omega (arith, p.next))

pub returns : goal.returns
returns c =
    let p = c.put-a.ensures in
    let q = c.put_decimal-b.ensures in
    let z = c.put-2.ensures in
    (stop_end _ c.if-stop-eq0.false (then p (then q.0 z)), omega (arith, p.next, q.1, z.next))
