-- scan::strict_demand_ahead meets its contract.
use Prim.Native.Nat.{◌≤◌, ◌-◌}
use Rattle.scan.specs.Scan.{demand_ahead}
use mathlib.Core.Bool.{false}
use mathlib.Core.Path.{◌≡◌}
use Rattle.scan.proofs.strict_demand_ahead.Given as goal

abbrev pub invariant-loop-j : goal.invariant-loop-j
invariant-loop-j l = (l.j ≤ l.n) × (false ≡ demand_ahead l.direction l.x l.demand l.xs l.j)
