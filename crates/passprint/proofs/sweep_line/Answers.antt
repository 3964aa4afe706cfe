-- passprint::sweep_line meets its contract.
use Rattle.passprint.specs.LineLaws.{code_line}
use Rattle.text.specs.Text.{then}
use native.Mathlib.Omega.{arith}
use Rattle.passprint.proofs.sweep_line.Goals as goal

pub returns : goal.returns
unfolding code_line
returns c =
    let p = c.put-a.ensures in
    let q = c.put_decimal-b.ensures in
    let d = c.direction_word-c.ensures in
    let z = c.mode_end.ensures in
    (then p (then q.0 (then d.0 z.0)), omega (arith, p.next, q.1, d.1, z.1))
