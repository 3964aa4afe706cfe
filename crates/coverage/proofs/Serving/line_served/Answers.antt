-- coverage::Serving::line_served meets its contract.
use Rattle.coverage.specs.Coverage.{on_served_line, line_served_by}
use Rattle.laws.specs.Folds.{any, any_at, any_no, ended}
use borrow.Author.Tests.{eq-eqb, ne_eqb}
use lib.ListN.{length}
use mathlib.Core.Path.{refl, sym}
use native.Mathlib.Omega.{arith}
use Rattle.coverage.proofs.Serving.line_served.Goals as goal

pub returns-then-line-eq0 : goal.returns-then-line-eq0
unfolding line_served_by
returns-then-line-eq0 c = rw (eq-eqb _ _ c.if-line-eq0.true)

pub loop-i-init : goal.loop-i-init
unfolding any
loop-i-init c = (omega arith, refl)

pub returns-then-self-i : goal.returns-then-self-i
unfolding line_served_by
returns-then-self-i c =
    let a = c.args in
    rw (ne_eqb _ _ c.if-line-eq0.false)
    (sym (any_at (on_served_line a.self.now.targets.now a.self.now.lines.now a.id a.line) (length a.self.now.targets.now) c.loop-i.i c.loop-i-test.true c.if-self-i.true))

pub loop-i-preserved : goal.loop-i-preserved
loop-i-preserved c =
    let a = c.args in
    (omega arith, any_no (on_served_line a.self.now.targets.now a.self.now.lines.now a.id a.line) c.loop-i.i c.if-self-i.false c.loop-i.invariant.1)

pub returns : goal.returns
unfolding line_served_by
returns c =
    rw (ne_eqb _ _ c.if-line-eq0.false) (ended (any _) c.loop-i.invariant.0 c.loop-i-test.false c.loop-i.invariant.1)
