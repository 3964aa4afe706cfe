-- components::TrafficFromU64::from meets its contract.
use borrow.Author.Tests.{ne_eqb}
use Rattle.components.specs.Codes.{has_code, traffic_codes, traffic_of}
use Rattle.components.proofs.TrafficFromU64.from.Goals as goal

pub returns-in-0 : goal.returns-in-0
unfolding traffic_of
returns-in-0 c = has_code traffic_codes (rw c.in-0.is)

pub returns-in-1 : goal.returns-in-1
unfolding traffic_of
returns-in-1 c = has_code traffic_codes (rw c.in-1.is)

pub returns-in-2 : goal.returns-in-2
unfolding traffic_of
returns-in-2 c = has_code traffic_codes (rw c.in-2.is)

pub returns-in-3-to-18446744073709551615 : goal.returns-in-3-to-18446744073709551615
unfolding traffic_of
returns-in-3-to-18446744073709551615 c = let r = c.in-3-to-18446744073709551615.in-3-to-18446744073709551615-own.rest in has_code traffic_codes (rw (ne_eqb _ _ r.0.0.1, ne_eqb _ _ r.0.1, ne_eqb _ _ r.1))
