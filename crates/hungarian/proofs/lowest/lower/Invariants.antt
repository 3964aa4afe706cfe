-- hungarian::lowest::lower meets its contract.
use Rattle.equality_graph.specs.Settled.{Lowering}
use Rattle.hungarian.proofs.lowest.lower.Given as goal

abbrev pub invariant-loop-j : goal.invariant-loop-j
invariant-loop-j l = Lowering l.m.cells.now l.m.rows l.m.columns l.i l.k l.search.len l.j l.prices.u l.prices.w l.pairs.row_of l.pairs.col_of l.search.queue l.search.from l.search.seen
