-- passprint::lines meets its contract.
use Rattle.passprint.specs.LineLaws.{refused_is}
use Rattle.text.specs.Lines.{put_as, counted}
use mathlib.Core.Path.{sym, ◌∙◌}
use native.Mathlib.Omega.{arith}
use Rattle.passprint.proofs.lines.Goals as goal

pub pass_lines-requires : goal.pass_lines-requires
pass_lines-requires c = (sym c.read.ensures ∙ c.in-Ok.is, omega arith)

pub returns-in-Err : goal.returns-in-Err
returns-in-Err c =
    let p = c.refusal_line.ensures in
    let h = counted (put_as (refused_is _ (sym c.read.ensures ∙ c.in-Err.is)) p.0) in
    record { counted = h.0; value = h.1 }

pub returns-in-Ok : goal.returns-in-Ok
returns-in-Ok c =
    let p = c.pass_lines.ensures in
    let h = counted p.0 in
    record { counted = h.0; value = h.1 }
