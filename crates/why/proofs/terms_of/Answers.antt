-- why::terms_of meets its contract.
use Rattle.why.specs.Pairs.{etd_terms, rsr_terms, scan_terms, no_terms}
use Rattle.why.proofs.terms_of.Goals as goal

pub returns-in-Etd : goal.returns-in-Etd
returns-in-Etd c =
    let a = c.args in
    etd_terms a.row.now a.dests.now.along.now a.dests.now.across.now a.v a.stops.now.points.now a.stops.now.count a.j c.point-p.ensures c.in-Etd.is c.intervening_stops-halts.ensures c.cost_terms.ensures c.etd_slots.ensures

pub returns-in-Rsr : goal.returns-in-Rsr
returns-in-Rsr c =
    let a = c.args in
    rsr_terms a.row.now a.dests.now.along.now a.dests.now.across.now a.v a.stops.now.points.now a.stops.now.count a.j c.point-p.ensures c.in-Rsr.is c.has-call.ensures c.cost_terms-in-Rsr.ensures c.rsr_slots.ensures

pub returns-in-Scan : goal.returns-in-Scan
returns-in-Scan c =
    let a = c.args in
    scan_terms a.row.now a.dests.now.along.now a.dests.now.across.now a.v a.stops.now.points.now a.stops.now.count a.j c.point-p.ensures c.in-Scan.is c.distance.ensures c.scan_slots.ensures

pub returns-in-Unknown : goal.returns-in-Unknown
returns-in-Unknown c =
    let a = c.args in
    no_terms a.row.now a.dests.now.along.now a.dests.now.across.now a.v a.stops.now.points.now a.stops.now.count a.j c.point-p.ensures c.in-Unknown.is c.scan_slots-in-Unknown.ensures
