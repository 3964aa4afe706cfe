-- etd::intervening_stops meets its contract.
use Prim.Native.Nat.{◌≤◌, ◌-◌}
use mathlib.Core.Path.{◌≡◌}
use Rattle.etd.specs.Pairs.{intervening_in}
use Rattle.etd.proofs.intervening_stops.Given as goal

abbrev pub invariant-loop-k : goal.invariant-loop-k
invariant-loop-k l = (l.k ≤ l.stops.count) × (l.between ≤ l.k) × (l.between ≡ intervening_in l.x l.p l.demand l.stops.points.now l.k)
