-- why::reason_of meets its contract.
use Rattle.etd.specs.Pairs.{halts_of}
use Rattle.why.specs.Pairs.{reason_by_lem}
use Rattle.why.proofs.reason_of.Goals as goal

pub rank-rank-requires : goal.rank-rank-requires
rank-rank-requires c =
    let s = c in
    let a = s.args in
    let p = s.requires in
    (p.0, p.1, λ is. halts_of a.row.now.car.position.along a.row.now.demand a.stops.now.points.now a.stops.now.count a.j c.point-p.ensures c.intervening_stops-halts.ensures)

pub returns : goal.returns
returns c =
    let a = c.args in
    reason_by_lem a.row.now a.dests.now.along.now a.dests.now.across.now a.v a.stops.now.points.now a.stops.now.count a.j a.waits a.served c.point-p.ensures c.has-here.ensures
    c.asks_path-path.ensures c.obstacle-obstacle.ensures c.rank-rank.ensures c.has-shut.ensures
    c.has-near.ensures c.rank_reason.ensures c.first_reason.ensures
