-- cells::idle_cars meets its contract.
use Prim.Native.Nat.{◌≤◌, ◌-◌}
use Rattle.assignment.specs.Pending.{idle}
use Rattle.layout.specs.Records.{sheet_of}
use Rattle.mask.specs.UpTo.{built_to}
use mathlib.Core.Path.{◌≡◌}
use Rattle.cells.proofs.idle_cars.Given as goal

abbrev pub invariant-loop-i : goal.invariant-loop-i
invariant-loop-i l = (l.i ≤ l.c.cars) × (l.m ≡ built_to (idle (sheet_of l.s l.c)) l.i)
