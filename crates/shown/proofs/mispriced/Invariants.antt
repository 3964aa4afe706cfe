-- shown::mispriced meets its contract.
use mathlib.Core.Path.{◌≡◌}
use mathlib.Core.Bool.{not}
use Rattle.laws.specs.Folds.{any}
use Rattle.prices.specs.Price.{in_range}
use Rattle.shown.specs.Fits.{price_at}
use Rattle.shown.proofs.mispriced.Given as goal

abbrev pub invariant-loop-price : goal.invariant-loop-price
invariant-loop-price l = l.wrong ≡ any (λ x. not (in_range (price_at l.sent x))) l.price-index
