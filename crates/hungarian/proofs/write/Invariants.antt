-- hungarian::write meets its contract.
use Prim.Native.Nat.{◌*◌, ◌≤◌}
use mathlib.Core.Path.{◌≡◌}
use mathlib.Core.List.{◌++◌}
use lib.ListN.{drop}
use Rattle.laws.specs.Sums.{sum}
use Rattle.laws.specs.Tables.{tab}
use Rattle.assignment_problem.specs.Choice.{cell_at}
use Rattle.alternating_tree.specs.Lists.{at, big}
use Rattle.hungarian.proofs.write.Given as goal

abbrev pub invariant-loop-i : goal.invariant-loop-i
invariant-loop-i l =
    (l.i ≤ l.m.rows) × (l.total ≡ sum l.i (λ k. cell_at l.m.cells.now l.m.columns k (at l.col_of k))) × (l.total ≤ l.i * big)
    × (l.places ≡ tab (at l.col_of) l.i ++ drop l.i l.initial.places)
