-- hungarian::tree::augment meets its contract.
use mathlib.Core.Path.{◌≡◌}
use lib.ListN.{length}
use Rattle.alternating_tree.specs.Lists.{at, Gone}
use Rattle.hungarian.proofs.tree.augment.Given as goal

abbrev pub invariant-loop-hole : goal.invariant-loop-hole
invariant-loop-hole l =
    (length l.pairs.row_of ≡ 65) × (length l.pairs.col_of ≡ 32) × Gone l.m.rows l.m.columns l.search.seen l.search.from l.initial.pairs.row_of l.initial.pairs.col_of l.j l.pairs.row_of l.pairs.col_of l.hole

abbrev pub decreases-loop-hole : goal.decreases-loop-hole
decreases-loop-hole l = at l.search.seen l.hole
