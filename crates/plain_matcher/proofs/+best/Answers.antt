-- plain_matcher::best meets its contract. It ends, since the cars that are left are one fewer at each call.
use Rattle.std.proofs.Common.{refl}
use Rattle.plain_matcher.specs.Held.{best_none, upto_none, upto_skip, upto_take, upto_end}
use Rattle.plain_matcher.proofs.+best.Goals as goal
use Rattle.plain_matcher.proofs.+best.Goals.{then-not-taken-j, else-not-taken-j}

pub returns-then-left-eq0 : goal.returns-then-left-eq0
returns-then-left-eq0 t c = best_none c.if-left-eq0.true

pub loop-j-init : goal.loop-j-init
loop-j-init t c = upto_none

pub loop-j-preserved : goal.loop-j-preserved
loop-j-preserved t c =
    let iv = c.loop-j.invariant in
    let lt = c.loop-j-test.true in
    elim c.if-not-taken-j.branch [
      | then-not-taken-j w ↦ rw (w.found-is, w.better-found.ensures, w.front-first.ensures)
          (upto_take c.requires iv c.if-left-eq0.false lt w.if-not-taken-j.true w.best-rest.ensures w.at.ensures refl)
      | else-not-taken-j w ↦ rw w.found-is (upto_skip c.requires iv lt w.if-not-taken-j.false)
    ]

pub returns : goal.returns
returns t c = upto_end c.requires c.loop-j.invariant c.if-left-eq0.false c.loop-j-test.false
