-- hungarian::lowest::expand meets its contract.
use Rattle.std.proofs.Common.{refl, arith}
use Rattle.alternating_tree.specs.Lists.{at}
use Rattle.equality_graph.specs.Settled.{expand_step, expand_done}
use Rattle.hungarian.proofs.lowest.expand.Goals as goal

pub loop-y-preserved : goal.loop-y-preserved
loop-y-preserved c =
    let s = c.args in
    let v = c.visit.ensures in (
      omega arith,
      v.ready,
      expand_step (at s.search.now.queue s.h) (at s.pairs.now.row_of (at s.search.now.queue s.h)) c.requires.h_lt_len.0 refl refl c.loop-y-test.true
          c.loop-y.invariant.2 v.visited,
    )

pub returns-clause-expanded : goal.returns-clause-expanded
returns-clause-expanded c = expand_done c.requires.h_lt_len.0 c.loop-y-test.false c.loop-y.invariant.2
