-- candidates::fill_distances meets its contract.
use Prim.Native.Nat.{◌≤◌}
use Rattle.components.specs.Points.{distance}
use Rattle.manifest.specs.Stops.{point_in}
use Rattle.laws.specs.Tables.{tab}
use lib.ListN.{length, drop}
use mathlib.Core.List.{◌++◌}
use mathlib.Core.Path.{◌≡◌}
use Rattle.candidates.proofs.fill_distances.Given as goal

abbrev pub invariant-loop-j : goal.invariant-loop-j
invariant-loop-j l = (l.j ≤ 64) × (length l.ds ≡ 64) × (l.ds ≡ tab (λ k. distance l.x (point_in l.xs k)) l.j ++ drop l.j l.initial.ds)
