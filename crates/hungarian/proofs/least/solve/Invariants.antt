-- hungarian::least::solve meets its contract.
use Prim.Native.Nat.{◌≤◌}
use Rattle.alternating_tree.specs.State.{State}
use Rattle.hungarian.proofs.least.solve.Given as goal

abbrev pub invariant-loop-i : goal.invariant-loop-i
invariant-loop-i l = (l.i ≤ l.m.rows) × State l.m.cells.now l.m.rows l.m.columns l.i l.prices.u l.prices.w l.pairs.row_of l.pairs.col_of
