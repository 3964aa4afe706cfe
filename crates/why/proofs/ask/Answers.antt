-- why::ask meets its contract.
use Rattle.std.proofs.lemmas.Result.{err_from_is_err_and}
use Rattle.why.specs.Why.{read_refused, read_accepted}
use mathlib.Core.Path.{sym, ◌∙◌}
use Rattle.why.proofs.ask.Goals as goal

pub of_ids-requires : goal.of_ids-requires
of_ids-requires c = sym c.read.ensures ∙ c.in_ok-c.was

pub returns-in_err-c : goal.returns-in_err-c
returns-in_err-c c =
    let p = err_from_is_err_and c.from_residual.result c.from_residual.ensures.1 in
    let a = c.args in
    rw (p.1, p.2) (read_refused a.s.now a.car a.stop c.read.ensures c.in_err-c.was)

pub returns : goal.returns
returns c =
    let a = c.args in
    read_accepted a.s.now a.car a.stop c.read.ensures c.in_ok-c.was c.of_ids.ensures
