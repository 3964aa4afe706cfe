-- writer_host::dispatch_bench_put_field meets its contract.
use mathlib.Core.Path.{sym, ap, ◌∙◌}
use Rattle.writer_host.specs.Host.{answered, field_narrow}
use Rattle.writer_host.proofs.dispatch_bench_put_field.Goals as goal

pub put-requires : goal.put-requires
put-requires c = field_narrow _ _ _ _ (sym c.check.ensures ∙ ap answered c.in-Ok.is)
