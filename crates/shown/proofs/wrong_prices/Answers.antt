-- shown::wrong_prices meets its contract.
use mathlib.Core.Path.{ap₂}
use mathlib.Core.Bool.{Bool, ◌||◌}
use Rattle.shown.specs.Refusals.{refusal20}
use Rattle.shown.proofs.wrong_prices.Goals as goal

pub returns : goal.returns
unfolding refusal20
returns c = ap₂ (λ (a b : Bool). a || b) c.mispriced.ensures c.mispriced-2.ensures
