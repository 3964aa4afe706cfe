-- passprint::decision_lines meets its contract.
use Prim.Native.Nat.{ℕ}
use Rattle.layout.specs.Records.{sheet_of, limit_of}
use Rattle.passprint.specs.LineLaws.{decision_row}
use Rattle.text.specs.Lines.{lines_of, putting_start, putting_next, put_as}
use Rattle.passprint.specs.Lines.{decision_line, row_decision}
use Rattle.text.specs.Text.{Put, size}
use lib.ListN.{get_or}
use mathlib.Core.Path.{◌≡◌, ap}
use native.Mathlib.Omega.{arith}
use Rattle.passprint.proofs.decision_lines.Goals as goal

pub loop-r-init : goal.loop-r-init
loop-r-init c = putting_start 60 _ _ _ (omega arith)

pub car_id-requires : goal.car_id-requires
unfolding sheet_of
car_id-requires c =
    let p = c.requires in
    let rows = p.1 in
    let l = c.loop-r-test.true in
    let r = c.loop-r.r in
    (p.0, omega (arith, rows.car_of r l, rows.below r l))

pub decision_line-at-requires : goal.decision_line-at-requires
decision_line-at-requires c =
    let p = c.requires in
    let l = c.loop-r in
    omega (arith, l.invariant.near, size l.invariant.put, p.3, p.1.few, c.loop-r-test.true)

pub loop-r-preserved : goal.loop-r-preserved
loop-r-preserved c =
    let a = c.args in
    let p = c.requires in
    let l = c.loop-r in
    let t = c.loop-r-test.true in
    let line = c.decision_line-at in
    let put : Put l.out l.at (decision_line c.car_id.result (get_or a.decisions.now l.r 0)) line.new.out line.result = line.ensures.0 in
    putting_next l.invariant (decision_row (sheet_of a.s.now a.c) p.1 l.r t c.car_id.ensures (limit_of a.s.now) p.2) put line.ensures.1

pub shape_of-out : goal.shape_of-out
shape_of-out c = size c.loop-r.invariant.put

pub returns : goal.returns
returns c =
    let a = c.args in
    let l = c.loop-r in
    let e : l.r ≡ a.cars.count = omega arith in
    (put_as (ap (λ (k : ℕ). lines_of (row_decision (sheet_of a.s.now a.c) (limit_of a.s.now)) k) e) l.invariant.put, omega (arith, l.invariant.near, c.requires.1.few))
