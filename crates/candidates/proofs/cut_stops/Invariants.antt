-- candidates::cut_stops meets its contract.
use Prim.Native.Nat.{◌≤◌, ◌-◌}
use Rattle.candidates.specs.Cut.{cut}
use Rattle.mask.specs.UpTo.{built_to}
use mathlib.Core.Path.{◌≡◌}
use Rattle.candidates.proofs.cut_stops.Given as goal

abbrev pub invariant-loop-m : goal.invariant-loop-m
invariant-loop-m l = (l.j ≤ 64) × (l.m ≡ built_to (cut l.viable l.ds l.limit) l.j)

abbrev pub decreases-loop-m : goal.decreases-loop-m
decreases-loop-m l = 64 - l.j
