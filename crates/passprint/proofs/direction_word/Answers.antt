-- passprint::direction_word meets its contract.
use Rattle.passprint.specs.LineLaws.{up_word_lem, down_word_lem}
use native.Mathlib.Omega.{arith}
use Rattle.passprint.proofs.direction_word.Goals as goal

pub returns-then-code-lt2 : goal.returns-then-code-lt2
returns-then-code-lt2 c =
    let p = c.put.ensures in
    (up_word_lem _ c.if-code-lt2.true p, omega (arith, p.next))

pub returns : goal.returns
returns c =
    let p = c.put-2.ensures in
    (down_word_lem _ c.if-code-lt2.false p, omega (arith, p.next))
