-- dispatch_bench::dispatch_bench_pending meets its contract.
use Rattle.dispatch_bench.specs.Answers.{pending_values}
use Rattle.dispatch_bench.proofs.dispatch_bench_pending.Goals as goal

pub returns-in-Ok : goal.returns-in-Ok
returns-in-Ok c =
    let v = pending_values c.pending_ids.ensures c.in-Ok.is c.args.count.now c.args.offset.now in
    record { number = v.0; stops = v.1.0; count = v.1.1.0; offset = v.1.1.1 }

pub returns-in-Err : goal.returns-in-Err
returns-in-Err c =
    let v = pending_values c.pending_ids.ensures c.in-Err.is c.args.count.now c.args.offset.now in
    record { number = v.0; stops = v.1.0; count = v.1.1.0; offset = v.1.1.1 }
