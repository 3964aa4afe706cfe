-- hungarian::lowest::expand meets its contract.
use Prim.Native.Nat.{◌≤◌}
use Rattle.equality_graph.specs.Settled.{SearchReady, ExpandingAll}
use Rattle.hungarian.proofs.lowest.expand.Given as goal

abbrev pub invariant-loop-y : goal.invariant-loop-y
invariant-loop-y l =
    (l.y ≤ l.m.columns) × SearchReady l.m.cells.now l.m.rows l.m.columns l.i l.prices.u l.prices.w l.pairs.row_of l.search.seen l.search.from l.search.queue
    × ExpandingAll l.m.cells.now l.m.rows l.m.columns l.i l.h l.initial.search.len l.y l.prices.u l.prices.w l.pairs.row_of l.initial.search.seen l.initial.search.from l.initial.search.queue l.search.seen l.search.from l.search.queue l.search.len
