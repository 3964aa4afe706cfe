-- hungarian::least::insert meets its contract.
use Prim.Native.Nat.{ℕ, ◌+◌, ◌≤◌}
use mathlib.Core.Path.{◌≡◌}
use lib.ListN.{length}
use Rattle.alternating_tree.specs.Lists.{at, Nearest}
use Rattle.alternating_tree.specs.State.{GrowingAt, Cleared, unseen}
use Rattle.hungarian.proofs.least.insert.Given as goal

abbrev pub invariant-loop-search : goal.invariant-loop-search
invariant-loop-search l =
    (length l.search.seen ≡ 65) × ((f : ℕ) × GrowingAt l.m.cells.now l.m.rows l.m.columns l.i l.t f l.prices.u l.prices.w l.pairs.row_of l.pairs.col_of l.search.dist l.search.from l.search.seen)
    × (l.t + unseen l.m.columns l.search.seen ≤ l.m.columns + 1) × Nearest l.search.seen l.search.dist l.m.columns l.j × (l.t ≡ 1 → Cleared l.m.columns l.search.seen × (at l.pairs.col_of l.i ≡ l.m.columns))

abbrev pub decreases-loop-search : goal.decreases-loop-search
decreases-loop-search l = unseen l.m.columns l.search.seen
