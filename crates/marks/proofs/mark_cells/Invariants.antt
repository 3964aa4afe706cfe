-- marks::mark_cells meets its contract.
use Prim.Native.Nat.{◌≤◌}
use Rattle.laws.specs.Tables.{tab}
use Rattle.marks.specs.Marks.{mark_at}
use lib.ListN.{length, drop}
use mathlib.Core.List.{◌++◌}
use mathlib.Core.Path.{◌≡◌}
use Rattle.marks.proofs.mark_cells.Given as goal

abbrev pub invariant-loop-k : goal.invariant-loop-k
invariant-loop-k l = (l.k ≤ length l.cells) × (length l.marks ≡ length l.initial.marks) × (l.marks ≡ tab (mark_at l.cells) l.k ++ drop l.k l.initial.marks)
