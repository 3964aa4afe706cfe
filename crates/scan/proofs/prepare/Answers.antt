-- scan::prepare meets its contract.
use Rattle.scan.specs.Scan.{prepared_by}
use Rattle.scan.proofs.prepare.Goals as goal

pub returns : goal.returns
unfolding prepared_by
returns c = simp (← c.strict_demand_ahead-ahead.ensures) c.prepare.ensures
