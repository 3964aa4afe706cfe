-- dispatch_bench::dispatch_bench_read meets its contract.
use Rattle.dispatch_bench.specs.Answers.{reading_number, reading_offset}
use mathlib.Core.Path.{sym, ap, ◌∙◌}
use Rattle.dispatch_bench.proofs.dispatch_bench_read.Goals as goal

pub returns-in-Err : goal.returns-in-Err
returns-in-Err c =
    let e = sym c.in-Err.is ∙ c.read.ensures in record {
      number = ap reading_number e;
      offset = ap (λ x. reading_offset x c.args.offset.now) e;
    }

pub returns-in-Ok : goal.returns-in-Ok
returns-in-Ok c =
    let e = sym c.in-Ok.is ∙ c.read.ensures in record {
      number = ap reading_number e;
      offset = ap (λ x. reading_offset x c.args.offset.now) e;
    }
