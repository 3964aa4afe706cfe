-- lists::replay_all meets its contract.
use Rattle.lists.specs.Turns.{reached_start, reached_next, reached_end}
use native.Mathlib.Omega.{arith}
use Rattle.lists.proofs.replay_all.Goals as goal

pub loop-at-init : goal.loop-at-init
loop-at-init g c = record { within = omega arith; can = c.requires; met = reached_start }

pub loop-at-preserved : goal.loop-at-preserved
loop-at-preserved g c =
    let l = c.loop-at in
    let r = c.turn-step.ensures in
    record { within = r.within; can = r.can; met = reached_next l.invariant.met c.loop-at-test.true r.is }

pub returns : goal.returns
returns g c = let l = c.loop-at in reached_end l.invariant.met l.invariant.within c.loop-at-test.false
