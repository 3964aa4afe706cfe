-- writer_host::dispatch_bench_put_demand meets its contract.
use mathlib.Core.Path.{◌∙◌}
use Rattle.writer_host.specs.Given.{demand_of}
use Rattle.writer_host.proofs.dispatch_bench_put_demand.Goals as goal

pub returns : goal.returns
unfolding demand_of
returns c = let put = c.put_record.ensures in (c.number.ensures ∙ put.0, put.1, put.2)
