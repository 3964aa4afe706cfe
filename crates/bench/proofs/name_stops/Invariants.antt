-- bench::name_stops meets its contract.
use Prim.Native.Nat.{◌≤◌, ◌-◌}
use Rattle.laws.specs.Tables.{tab}
use Rattle.bench.specs.PendingStops.{listed_id}
use lib.ListN.{length, drop}
use mathlib.Core.List.{◌++◌}
use mathlib.Core.Path.{◌≡◌}
use Rattle.bench.proofs.name_stops.Given as goal

abbrev pub invariant-loop-k : goal.invariant-loop-k
invariant-loop-k l =
    (l.k ≤ l.listed.count) × (length l.stops ≡ length l.initial.stops) × (l.stops ≡ tab (listed_id l.listed l.ids) l.k ++ drop l.k l.initial.stops)
