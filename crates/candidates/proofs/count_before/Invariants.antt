-- candidates::count_before meets its contract.
use Prim.Native.Nat.{◌≤◌}
use Rattle.candidates.specs.Cut.{comes_before}
use Rattle.laws.specs.Folds.{count}
use mathlib.Core.Path.{◌≡◌}
use Rattle.candidates.proofs.count_before.Given as goal

abbrev pub invariant-loop-k : goal.invariant-loop-k
invariant-loop-k l = (l.k ≤ l.e) × (l.n ≡ count (comes_before l.viable l.ds l.j) l.k)
