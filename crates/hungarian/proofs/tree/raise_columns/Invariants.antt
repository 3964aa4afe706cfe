-- hungarian::tree::raise_columns meets its contract.
use Prim.Native.Nat.{ℕ, ◌+◌, ◌≤◌, ◌<◌}
use mathlib.Core.Path.{◌≡◌}
use lib.ListN.{length}
use Rattle.alternating_tree.specs.Lists.{at, gain}
use Rattle.hungarian.proofs.tree.raise_columns.Given as goal

abbrev pub invariant-loop-j : goal.invariant-loop-j
invariant-loop-j l =
    (l.j ≤ l.cols) × (length l.w ≡ 65)
    × ((k : ℕ) → k < l.j → at l.w k ≡ at l.initial.w k + gain (at l.search.seen k) l.d (at l.search.dist k))
    × ((k : ℕ) → l.j ≤ k → at l.w k ≡ at l.initial.w k)
