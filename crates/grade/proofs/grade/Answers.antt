-- grade::grade meets its contract.
use Rattle.std.proofs.lemmas.Result.{err_from_is_err_and}
use Rattle.grade.specs.Graded.{sent}
use Rattle.grade.specs.Grading.{is_grade, short, long, room}
use mathlib.Core.Path.{refl, sym, ◌∙◌}
use Rattle.grade.proofs.grade.Goals as goal

pub returns-then-short_matrix : goal.returns-then-short_matrix
returns-then-short_matrix c =
    let a = c.args in
    is_grade a.s.now (sent a.columns.now a.u.now a.v.now) a.matrix.now (short a.s.now _ (sym c.short_matrix.ensures ∙ c.if-short_matrix.true)) refl

pub judge-requires : goal.judge-requires
judge-requires c =
    let e = sym c.in_ok-c.was ∙ c.read.ensures in
    (sym e, room _ (sym c.short_matrix.ensures ∙ c.if-short_matrix.false))

pub returns-in_err-c : goal.returns-in_err-c
returns-in_err-c c =
    let p = err_from_is_err_and c.from_residual.result c.from_residual.ensures.1 in
    let a = c.args in
    let e = sym c.in_err-c.was ∙ c.read.ensures in
    rw (p.1, p.2) (is_grade a.s.now (sent a.columns.now a.u.now a.v.now) a.matrix.now (long a.s.now _ (sym c.short_matrix.ensures ∙ c.if-short_matrix.false) e) refl)

pub shape_of-matrix : goal.shape_of-matrix
shape_of-matrix c = c.judge.ensures.length

pub returns : goal.returns
returns c =
    let a = c.args in
    let e = sym c.in_ok-c.was ∙ c.read.ensures in
    is_grade a.s.now (sent a.columns.now a.u.now a.v.now) a.matrix.now (long a.s.now _ (sym c.short_matrix.ensures ∙ c.if-short_matrix.false) e) c.judge.ensures.done
