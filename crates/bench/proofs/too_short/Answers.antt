-- bench::too_short meets its contract.
use Rattle.outcome.specs.Outcome.{refusal1}
use mathlib.Core.Path.{refl}
use Rattle.bench.proofs.too_short.Goals as goal

pub returns : goal.returns
unfolding refusal1
returns c = refl
