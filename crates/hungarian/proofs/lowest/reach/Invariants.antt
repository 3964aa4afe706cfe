-- hungarian::lowest::reach meets its contract.
use Prim.Native.Nat.{◌-◌}
use Rattle.equality_graph.specs.Settled.{SearchReady, Reaching}
use Rattle.hungarian.proofs.lowest.reach.Given as goal

abbrev pub invariant-loop-h : goal.invariant-loop-h
invariant-loop-h l = SearchReady l.m.cells.now l.m.rows l.m.columns l.i l.prices.u l.prices.w l.pairs.row_of l.search.seen l.search.from l.search.queue × Reaching l.m.cells.now l.m.rows l.m.columns l.i l.j l.h l.prices.u l.prices.w l.pairs.row_of l.initial.search.seen l.search.seen l.search.from l.search.queue l.search.len

abbrev pub decreases-loop-h : goal.decreases-loop-h
decreases-loop-h l = l.m.columns - l.h
