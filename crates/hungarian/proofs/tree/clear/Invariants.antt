-- hungarian::tree::clear meets its contract.
use Prim.Native.Nat.{ℕ, ◌≤◌, ◌<◌}
use mathlib.Core.Path.{◌≡◌}
use lib.ListN.{length}
use Rattle.alternating_tree.specs.Lists.{at}
use Rattle.hungarian.proofs.tree.clear.Given as goal

abbrev pub invariant-loop-j : goal.invariant-loop-j
invariant-loop-j l = (l.j ≤ l.cols) × (length l.seen ≡ 65) × ((k : ℕ) → k < l.j → at l.seen k ≡ 0)
