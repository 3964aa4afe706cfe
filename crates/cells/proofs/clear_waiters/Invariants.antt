-- cells::clear_waiters meets its contract.
use Prim.Native.Nat.{◌≤◌, ◌-◌}
use Rattle.rows.specs.Gathered.{Cleared}
use Rattle.cells.proofs.clear_waiters.Given as goal

abbrev pub invariant-loop-j : goal.invariant-loop-j
invariant-loop-j l = (l.j ≤ l.n) × Cleared l.j l.initial.sums l.sums
