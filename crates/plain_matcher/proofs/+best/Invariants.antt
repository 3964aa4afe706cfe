-- plain_matcher::best meets its contract. It ends, since the cars that are left are one fewer at each call.
use Rattle.plain_matcher.specs.Held.{Upto}
use Rattle.plain_matcher.proofs.+best.Given as goal

-- the cars that are left
abbrev pub decreases-best : goal.decreases-best
decreases-best l = l.left

abbrev pub invariant-loop-j : goal.invariant-loop-j
invariant-loop-j l = Upto l.m.cells.now l.m.columns l.i l.left l.taken l.found l.j
