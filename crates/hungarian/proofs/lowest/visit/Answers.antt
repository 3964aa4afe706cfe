-- hungarian::lowest::visit meets its contract.
use Rattle.std.proofs.Common.{◌+◌, set, length-set, arith}
use Rattle.equality_graph.specs.Settled.{ready_keep, visit_push, push_space}
use Rattle.hungarian.proofs.lowest.visit.Goals as goal

pub returns-clause-ready : goal.returns-clause-ready
returns-clause-ready c =
    let g = c.args in
    let s = g.search.now in
    ready_keep (set s.seen g.y (s.len + 1 + 1)) (set s.from g.y g.x) (set s.queue s.len g.y) c.requires.search_ready
    (length-set s.seen g.y _) (length-set s.from g.y _) (length-set s.queue s.len _)

pub returns-clause-visited : goal.returns-clause-visited
returns-clause-visited c =
    let g = c.args in
    let rd = c.requires.search_ready in
    let out = c.if-search-y-ne0.false in
    let may = c.may.ensures.yes_may c.if-not-may.false in
    record {
      visited = λ h top se so. visit_push g.x g.r g.y rd se so out (omega arith) may;
      space = push_space g.search.now.len rd c.requires.y_lt_cols.0 out;
    }
