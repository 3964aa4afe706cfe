-- hungarian::tree::raise_rows meets its contract.
use Prim.Native.Nat.{ℕ, ◌+◌, ◌≤◌, ◌<◌}
use mathlib.Core.Path.{◌≡◌}
use lib.ListN.{length}
use Rattle.alternating_tree.specs.Lists.{at, gain}
use Rattle.hungarian.proofs.tree.raise_rows.Given as goal

abbrev pub invariant-loop-r : goal.invariant-loop-r
invariant-loop-r l =
    (l.r ≤ l.rows) × (length l.u ≡ 32)
    × ((k : ℕ) → k < l.r → at l.u k ≡ at l.initial.u k + gain (at l.search.seen (at l.pairs.col_of k)) l.d (at l.search.dist (at l.pairs.col_of k)))
    × ((k : ℕ) → l.r ≤ k → at l.u k ≡ at l.initial.u k)
