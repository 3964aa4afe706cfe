-- writer_host::dispatch_bench_put_stop meets its contract.
use mathlib.Core.Path.{◌∙◌}
use Rattle.writer_host.specs.Given.{stop_of}
use Rattle.writer_host.proofs.dispatch_bench_put_stop.Goals as goal

pub returns : goal.returns
unfolding stop_of
returns c = let put = c.put_record.ensures in (c.number.ensures ∙ put.0, put.1, put.2)
