-- decisions::write meets its contract.
use Prim.Native.Nat.{◌≤◌}
use Rattle.decisions.specs.Decisions.{told_at}
use Rattle.laws.specs.Tables.{tab}
use lib.ListN.{length, drop}
use mathlib.Core.List.{◌++◌}
use mathlib.Core.Path.{◌≡◌}
use Rattle.decisions.proofs.write.Given as goal

abbrev pub invariant-loop-r : goal.invariant-loop-r
invariant-loop-r l =
    (l.r ≤ l.m.rows) × (length l.decisions ≡ length l.initial.decisions) × (l.decisions ≡ tab (told_at l.m.cells.now l.m.columns l.places l.stops l.ids) l.r ++ drop l.r l.initial.decisions)
