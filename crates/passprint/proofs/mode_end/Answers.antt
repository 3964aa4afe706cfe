-- passprint::mode_end meets its contract.
use Rattle.passprint.specs.LineLaws.{strict_end_lem, lenient_end_lem}
use native.Mathlib.Omega.{arith}
use Rattle.passprint.proofs.mode_end.Goals as goal

pub returns-then-code-eq0 : goal.returns-then-code-eq0
returns-then-code-eq0 c =
    let p = c.put.ensures in
    (strict_end_lem _ c.if-code-eq0.true p, omega (arith, p.next))

pub returns : goal.returns
returns c =
    let p = c.put-2.ensures in
    (lenient_end_lem _ c.if-code-eq0.false p, omega (arith, p.next))
