-- covered::served_stops meets its contract.
use Prim.Native.Nat.{◌≤◌, ◌-◌}
use Rattle.assignment.specs.Pending.{serves}
use Rattle.covered.specs.Walk.{named_by}
use Rattle.layout.specs.Records.{sheet_of}
use mathlib.Core.Path.{◌≡◌}
use Rattle.covered.proofs.served_stops.Given as goal

abbrev pub invariant-loop-i : goal.invariant-loop-i
invariant-loop-i l = (l.i ≤ l.c.cars) × (l.m ≡ named_by (serves (sheet_of l.s l.c)) l.c.stops l.i)
