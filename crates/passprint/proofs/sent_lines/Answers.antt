-- passprint::sent_lines meets its contract.
use Rattle.accepted.specs.Accepted.{accepted}
use Rattle.cells.specs.Survey.{rows_listed}
use Rattle.layout.specs.Records.{sheet_of}
use Rattle.passprint.specs.LineLaws.{text_is}
use Rattle.text.specs.Lines.{put_as}
use Rattle.text.specs.Text.{then}
use native.Mathlib.Omega.{arith}
use Rattle.passprint.proofs.sent_lines.Goals as goal

pub list_cars-idle-requires : goal.list_cars-idle-requires
list_cars-idle-requires c =
    let a = c.args in
    (accepted a.s.now a.c c.requires.0).small

pub decision_lines-b-requires : goal.decision_lines-b-requires
unfolding sheet_of
decision_lines-b-requires c =
    let a = c.args in
    let p = c.requires in
    let listed = c.list_cars-idle in
    let small = (accepted a.s.now a.c p.0).small in
    let h = c.head_line-a.ensures in
    (small, rows_listed (sheet_of a.s.now a.c) small.cars listed.result listed.ensures, p.2, omega (arith, h.1, p.4))

pub sweep_lines-requires : goal.sweep_lines-requires
unfolding sheet_of
sweep_lines-requires c =
    let a = c.args in
    let p = c.requires in
    let listed = c.list_cars-idle in
    let small = (accepted a.s.now a.c p.0).small in
    let h = c.head_line-a.ensures in
    let d = c.decision_lines-b.ensures in
    (small, rows_listed (sheet_of a.s.now a.c) small.cars listed.result listed.ensures, p.3, omega (arith, h.1, d.1, p.4))

pub returns : goal.returns
unfolding sheet_of
returns c =
    let a = c.args in
    let p = c.requires in
    let n = c.list_cars-idle in
    let h = c.head_line-a.ensures in
    let d = c.decision_lines-b.ensures in
    let w = c.sweep_lines.ensures in
    (put_as (text_is a.s.now a.c p.0 p.1 n.result.count (rows_listed (sheet_of a.s.now a.c) (accepted a.s.now a.c p.0).small.cars n.result n.ensures).number) (then h.0 (then d.0 w.0)), omega (arith, h.1, d.1, w.1))
