-- riders::riders_of meets its contract.
use Prim.Native.Nat.{◌≤◌}
use Rattle.riders.specs.Riders.{Seats}
use Rattle.riders.proofs.riders_of.Given as goal

abbrev pub invariant-loop-a : goal.invariant-loop-a
invariant-loop-a l = (l.a ≤ l.aboard.count) × Seats l.stops.ids.now l.stops.points.now l.stops.count l.aboard.cars.now l.aboard.destinations.now l.a l.id l.initial.dests l.initial.sides l.riders l.dests l.sides
