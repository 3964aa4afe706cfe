-- dispatch_bench::dispatch_bench_choose_plain meets its contract.
use mathlib.Core.Path.{sym, ap, ◌∙◌}
use Rattle.std.specs.Prelude.{Result}
use Rattle.plain_matcher.specs.declared.Chosen.{Chosen}
use Rattle.plain_matcher.specs.declared.Refusal.{Refusal}
use Rattle.plain_matcher.specs.Promise.{plain_number, plain_total}
use Rattle.dispatch_bench.proofs.dispatch_bench_choose_plain.Goals as goal

pub returns-in-Ok : goal.returns-in-Ok
returns-in-Ok c =
    let a = c.args in
    let r = c.fill_columns.ensures in
    let e = sym c.in-Ok.is ∙ r.0 in
    (ap plain_number e, r.1, ap (λ (p : Result Chosen Refusal). plain_total p a.total.now) e)

pub returns-in-Err : goal.returns-in-Err
returns-in-Err c =
    let a = c.args in
    let r = c.fill_columns.ensures in
    let e = sym c.in-Err.is ∙ r.0 in
    (c.number.ensures ∙ ap plain_number e, r.1, ap (λ (p : Result Chosen Refusal). plain_total p a.total.now) e)
