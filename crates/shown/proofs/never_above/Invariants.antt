-- shown::never_above meets its contract.
use Prim.Native.Nat.{◌≤◌}
use mathlib.Core.Path.{◌≡◌}
use Rattle.assignment_problem.specs.Choice.{cell_at}
use Rattle.shown.specs.Shown.{never_above}
use Rattle.shown.specs.Fits.{price_at}
use Rattle.shown.proofs.never_above.Given as goal

abbrev pub invariant-loop-i : goal.invariant-loop-i
invariant-loop-i l = (l.i ≤ l.n) × (l.ok ≡ never_above l.i l.w (cell_at l.cells l.w) (price_at l.u) (price_at l.v))
