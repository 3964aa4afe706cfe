-- covered::covered_mask meets its contract.
use Prim.Native.Nat.{◌≤◌, ◌-◌}
use Rattle.covered.specs.Same.{covered_in}
use Rattle.mask.specs.UpTo.{built_to}
use lib.ListN.{length}
use mathlib.Core.Path.{◌≡◌}
use Rattle.covered.proofs.covered_mask.Given as goal

abbrev pub invariant-loop-covered : goal.invariant-loop-covered
invariant-loop-covered l =
    (l.j ≤ 64) × (l.m ≡ built_to (covered_in l.cars.targets.now l.cars.lines.now l.cars.rooms.now (length l.cars.targets.now) l.cars.line_ids.now (length l.cars.line_ids.now) l.riders.stops.now l.riders.required.now l.riders.weights.now (length l.riders.stops.now) l.asked l.names) l.j)

abbrev pub decreases-loop-covered : goal.decreases-loop-covered
decreases-loop-covered l = 64 - l.j
