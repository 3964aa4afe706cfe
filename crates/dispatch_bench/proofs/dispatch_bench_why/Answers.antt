-- dispatch_bench::dispatch_bench_why meets its contract.
use Rattle.why.specs.Answers.{why_number, reason_left, why_offset}
use mathlib.Core.Path.{sym, ap, ◌∙◌}
use Rattle.dispatch_bench.proofs.dispatch_bench_why.Goals as goal

pub returns-in-Ok-Ranked : goal.returns-in-Ok-Ranked
returns-in-Ok-Ranked c =
    let a = c.args in
    let f = c.fill_terms in
    let e = sym (rw c.in-Ok-Ranked.field-0-is at c.in-Ok-Ranked.is) ∙ f.ensures.answer in
    (ap why_number e, f.ensures.places, ap (λ x. reason_left x a.reason.now) e, ap (λ x. why_offset x a.offset.now) e)

pub returns-in-Ok-Unranked : goal.returns-in-Ok-Unranked
returns-in-Ok-Unranked c =
    let a = c.args in
    let f = c.fill_terms in
    let e = sym (rw c.in-Ok-Unranked.field-0-is at c.in-Ok-Unranked.is) ∙ f.ensures.answer in
    (ap why_number e, f.ensures.places, ap (λ x. reason_left x a.reason.now) e, ap (λ x. why_offset x a.offset.now) e)

pub returns-in-Err : goal.returns-in-Err
returns-in-Err c =
    let a = c.args in
    let f = c.fill_terms in
    let e = sym c.in-Err.is ∙ f.ensures.answer in
    (ap why_number e, f.ensures.places, ap (λ x. reason_left x a.reason.now) e, ap (λ x. why_offset x a.offset.now) e)
