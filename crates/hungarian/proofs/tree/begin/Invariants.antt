-- hungarian::tree::begin meets its contract.
use Rattle.hungarian.proofs.Best.{Best, AllOut}
use Prim.Native.Nat.{ℕ, ◌+◌, ◌*◌, ◌≤◌, ◌<◌}
use mathlib.Core.Path.{◌≡◌}
use lib.ListN.{length}
use Rattle.alternating_tree.specs.Lists.{at}
use Rattle.hungarian.proofs.tree.begin.Given as goal

abbrev pub invariant-loop-j : goal.invariant-loop-j
invariant-loop-j l =
    (l.j ≤ l.m.columns) × (length l.search.dist ≡ 65) × (length l.search.from ≡ 65)
    × ((k : ℕ) → k < l.j → at l.search.dist k ≡ at l.m.cells.now (l.i * l.m.columns + k) + at l.prices.w k)
    × ((k : ℕ) → k < l.j → at l.search.from k ≡ l.m.columns)
    × Best AllOut l.m.rows l.search.dist l.pairs.row_of l.best l.least l.j × (l.search.seen ≡ l.initial.search.seen)
