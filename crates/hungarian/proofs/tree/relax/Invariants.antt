-- hungarian::tree::relax meets its contract.
use Rattle.hungarian.proofs.Best.{Best}
use Rattle.hungarian.proofs.Lowers.{Lowers, Out}
use mathlib.Core.Path.{◌≡◌}
use Rattle.hungarian.proofs.tree.relax.Given as goal

abbrev pub invariant-loop-j : goal.invariant-loop-j
invariant-loop-j l =
    Lowers l.m.cells.now l.m.columns l.r l.ur l.col l.d l.prices.w l.search.seen l.initial.search.dist l.initial.search.from l.search.dist l.search.from l.j × (l.search.seen ≡ l.initial.search.seen) × Best (Out l.search.seen) l.m.rows l.search.dist l.pairs.row_of l.best l.least l.j
