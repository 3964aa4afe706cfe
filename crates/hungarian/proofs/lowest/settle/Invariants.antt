-- hungarian::lowest::settle meets its contract.
use Prim.Native.Nat.{◌≤◌}
use Rattle.equality_graph.specs.Settled.{Settled}
use Rattle.hungarian.proofs.lowest.settle.Given as goal

abbrev pub invariant-loop-i : goal.invariant-loop-i
invariant-loop-i l = (l.i ≤ l.m.rows) × Settled l.m.cells.now l.m.rows l.m.columns l.i l.prices.u l.prices.w l.pairs.row_of l.pairs.col_of
