-- components::StrategyFromU64::from meets its contract.
use mathlib.Core.Path.{refl}
use borrow.Author.Tests.{ne_eqb}
use Rattle.components.specs.Codes.{has_code, strategy_codes, strategy_of}
use Rattle.components.proofs.StrategyFromU64.from.Goals as goal

pub returns-in-0 : goal.returns-in-0
unfolding strategy_of
returns-in-0 c = has_code strategy_codes (rw c.in-0.is refl)

pub returns-in-1 : goal.returns-in-1
unfolding strategy_of
returns-in-1 c = has_code strategy_codes (rw c.in-1.is refl)

pub returns-in-2 : goal.returns-in-2
unfolding strategy_of
returns-in-2 c = has_code strategy_codes (rw c.in-2.is refl)

pub returns-in-3-to-18446744073709551615 : goal.returns-in-3-to-18446744073709551615
unfolding strategy_of
returns-in-3-to-18446744073709551615 c = let r = c.in-3-to-18446744073709551615.in-3-to-18446744073709551615-own.rest in has_code strategy_codes (rw (ne_eqb _ _ r.0.0.1, ne_eqb _ _ r.0.1, ne_eqb _ _ r.1))
