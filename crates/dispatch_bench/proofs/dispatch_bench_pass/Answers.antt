-- dispatch_bench::dispatch_bench_pass meets its contract.
use Rattle.bench.specs.Done.{lent}
use Rattle.dispatch_bench.specs.Answers.{told, pass_values}
use Rattle.dispatch_bench.proofs.dispatch_bench_pass.Goals as goal

pub returns-in-Ok : goal.returns-in-Ok
returns-in-Ok c =
    let a = c.args in
    let x = lent a.sheet.now a.decisions.now a.matrix.now a.sweeps.now in
    let h = told x c.pass.ensures c.in-Ok.is in
    pass_values x h a.cars.now a.stops.now a.total.now a.ranked.now a.held.now a.offset.now

pub returns-in-Err : goal.returns-in-Err
returns-in-Err c =
    let a = c.args in
    let x = lent a.sheet.now a.decisions.now a.matrix.now a.sweeps.now in
    let h = told x c.pass.ensures c.in-Err.is in
    pass_values x h a.cars.now a.stops.now a.total.now a.ranked.now a.held.now a.offset.now
