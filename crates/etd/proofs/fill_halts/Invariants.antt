-- etd::fill_halts meets its contract.
use Prim.Native.Nat.{◌≤◌, ◌-◌}
use mathlib.Core.Path.{◌≡◌}
use mathlib.Core.List.{◌++◌}
use lib.ListN.{length, drop}
use Rattle.laws.specs.Tables.{tab}
use Rattle.etd.specs.Pairs.{halts_at}
use Rattle.etd.proofs.fill_halts.Given as goal

abbrev pub invariant-loop-j : goal.invariant-loop-j
invariant-loop-j l = (l.j ≤ l.stops.count) × (length l.out ≡ length l.initial.out) × (l.out ≡ tab (halts_at l.x l.demand l.stops.points.now l.stops.count) l.j ++ drop l.j l.initial.out)
