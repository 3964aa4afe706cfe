-- dispatch_bench::dispatch_bench_version meets its contract.
use mathlib.Core.Path.{refl}
use Rattle.dispatch_bench.proofs.dispatch_bench_version.Goals as goal

pub returns : goal.returns
returns c = refl
