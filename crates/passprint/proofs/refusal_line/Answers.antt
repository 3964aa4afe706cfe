-- passprint::refusal_line meets its contract.
use Rattle.passprint.specs.Lines.{refusal_line}
use Rattle.text.specs.Text.{then}
use native.Mathlib.Omega.{arith}
use Rattle.passprint.proofs.refusal_line.Goals as goal

pub returns : goal.returns
unfolding refusal_line
returns c =
    let p = c.put-a.ensures in
    let n = c.put_decimal-b.ensures in
    let q = c.put-c.ensures in
    let o = c.put_decimal-d.ensures in
    let z = c.put.ensures in
    (then p (then n.0 (then q (then o.0 z))), omega (arith, p.next, n.1, q.next, o.1, z.next))
