-- bench::pass meets its contract.
use Rattle.std.proofs.lemmas.Result.{err_from_is_err_and}
use Rattle.bench.specs.Done.{lent}
use Rattle.bench.specs.Passing.{short, long, room, is_pass}
use mathlib.Core.Path.{refl, sym, ◌∙◌}
use Rattle.bench.proofs.pass.Goals as goal

pub returns-then-too_short : goal.returns-then-too_short
returns-then-too_short c =
    let a = c.args in
    is_pass (lent a.s.now a.decisions.now a.matrix.now a.sweeps.now) (short a.s.now _ _ _ (sym c.too_short.ensures ∙ c.if-too_short.true)) refl

pub run-requires : goal.run-requires
run-requires c =
    let e = sym c.in_ok-c.was ∙ c.read.ensures in
    let long_enough = room _ _ _ (sym c.too_short.ensures ∙ c.if-too_short.false) in
    (sym e, long_enough.decisions, long_enough.cells, long_enough.sweeps)

pub returns-in_err-c : goal.returns-in_err-c
returns-in_err-c c =
    let p = err_from_is_err_and c.from_residual.result c.from_residual.ensures.1 in
    let a = c.args in
    let e = sym c.in_err-c.was ∙ c.read.ensures in
    rw (p.1, p.2) (is_pass (lent a.s.now a.decisions.now a.matrix.now a.sweeps.now) (long a.s.now _ _ _ (sym c.too_short.ensures ∙ c.if-too_short.false) e) refl)

pub shape_of-decisions : goal.shape_of-decisions
shape_of-decisions c = c.run.ensures.lengths.0

pub shape_of-matrix : goal.shape_of-matrix
shape_of-matrix c = c.run.ensures.lengths.1

pub shape_of-sweeps : goal.shape_of-sweeps
shape_of-sweeps c = c.run.ensures.lengths.2

pub returns : goal.returns
returns c =
    let a = c.args in
    let e = sym c.in_ok-c.was ∙ c.read.ensures in
    let r = c.run.ensures in
    is_pass (lent a.s.now a.decisions.now a.matrix.now a.sweeps.now) (long a.s.now _ _ _ (sym c.too_short.ensures ∙ c.if-too_short.false) e) r.done
