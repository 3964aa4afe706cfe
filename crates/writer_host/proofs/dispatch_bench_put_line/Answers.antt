-- writer_host::dispatch_bench_put_line meets its contract.
use mathlib.Core.Path.{◌∙◌}
use Rattle.writer_host.specs.Given.{line_of}
use Rattle.writer_host.proofs.dispatch_bench_put_line.Goals as goal

pub returns : goal.returns
unfolding line_of
returns c = let put = c.put_record.ensures in (c.number.ensures ∙ put.0, put.1, put.2)
