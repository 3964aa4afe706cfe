-- hungarian::lowest::reach meets its contract.
use Rattle.equality_graph.specs.Settled.{reach_start, reach_step, reach_found, reach_more}
use Rattle.hungarian.proofs.lowest.reach.Goals as goal

pub loop-h-init : goal.loop-h-init
loop-h-init c =
    let p = c.requires in
    let v = c.visit.ensures in
    (v.ready, reach_start p.search_ready.0 p.search_ready.1 p.search v.visited)

pub returns-then-search-k-ne0-clause-ended : goal.returns-then-search-k-ne0-clause-ended
returns-then-search-k-ne0-clause-ended c =
    let p = c.requires in
    reach_found (reach_more p.search_ready.0 p.search_ready.1 p.search c.visit.ensures.visited)
    (reach_step c.loop-h.invariant.1 c.expand.ensures.expanded) (λ z. absurd (c.if-search-k-ne0.true z))

pub loop-h-preserved : goal.loop-h-preserved
loop-h-preserved c =
    let e = c.expand.ensures in
    (e.ready, reach_step c.loop-h.invariant.1 e.expanded)

pub returns-clause-ended : goal.returns-clause-ended
returns-clause-ended c =
    let p = c.requires in
    reach_found (reach_more p.search_ready.0 p.search_ready.1 p.search c.visit.ensures.visited) c.loop-h.invariant.1 (λ z. c.loop-h-test.false)
