-- passprint::head_line meets its contract.
use Rattle.passprint.specs.Lines.{head_line}
use Rattle.text.specs.Text.{then}
use native.Mathlib.Omega.{arith}
use Rattle.passprint.proofs.head_line.Goals as goal

pub returns : goal.returns
unfolding head_line
returns c =
    let p = c.put-a.ensures in
    let n = c.put_decimal-b.ensures in
    let q = c.put-c.ensures in
    let m = c.put_decimal-d.ensures in
    let o = c.put-e.ensures in
    let t = c.put_decimal-f.ensures in
    let z = c.held_end.ensures in
    (then p (then n.0 (then q (then m.0 (then o (then t.0 z.0))))), omega (arith, p.next, n.1, q.next, m.1, o.next, t.1, z.1))
