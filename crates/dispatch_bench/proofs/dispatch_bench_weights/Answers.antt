-- dispatch_bench::dispatch_bench_weights meets its contract.
use Rattle.weights.specs.Answers.{weights_number, weights_offset}
use mathlib.Core.Path.{sym, ap, ◌∙◌}
use Rattle.dispatch_bench.proofs.dispatch_bench_weights.Goals as goal

pub returns-in-Ok : goal.returns-in-Ok
returns-in-Ok c =
    let a = c.args in
    let r = c.fill_weights in
    let e = sym c.in-Ok.is ∙ r.ensures.answer in record {
      number = ap weights_number e;
      weights = r.ensures.places;
      offset = ap (λ x. weights_offset x a.offset.now) e;
    }

pub returns-in-Err : goal.returns-in-Err
returns-in-Err c =
    let a = c.args in
    let r = c.fill_weights in
    let e = sym c.in-Err.is ∙ r.ensures.answer in record {
      number = ap weights_number e;
      weights = r.ensures.places;
      offset = ap (λ x. weights_offset x a.offset.now) e;
    }
