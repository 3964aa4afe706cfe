-- etd::cost_terms meets its contract.
use Rattle.etd.specs.Pairs.{terms_by_lem}
use Rattle.etd.proofs.cost_terms.Goals as goal

pub returns : goal.returns
returns c =
    let a = c.args in
    let row = a.row.now in
    terms_by_lem row.policy row.car row.goal row.riders.count a.dests.now.along.now a.dests.now.across.now a.waiters a.halts a.p
    c.distance.ensures c.door_cost-doors.ensures
    c.existing_rider_delay-delay.ensures c.direction_bonus-bonus.ensures
    c.weighted-sum.ensures c.with_bonus-squared.ensures c.with_bonus.ensures
