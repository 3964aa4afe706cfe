-- shown::equal_where_chosen meets its contract.
use Prim.Native.Nat.{◌≤◌}
use mathlib.Core.Path.{◌≡◌}
use Rattle.assignment_problem.specs.Choice.{cell_at}
use Rattle.shown.specs.Shown.{equal_where_chosen}
use Rattle.shown.specs.Fits.{price_at, column_of}
use Rattle.shown.proofs.equal_where_chosen.Given as goal

abbrev pub invariant-loop-i : goal.invariant-loop-i
invariant-loop-i l = (l.i ≤ l.n) × (l.ok ≡ equal_where_chosen l.i (cell_at l.cells l.w) (column_of l.columns) (price_at l.u) (price_at l.v))
