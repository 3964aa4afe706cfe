-- lists::replay_all meets its contract.
use Prim.Native.Nat.{◌-◌, ◌≤◌}
use Rattle.lists.specs.Turns.{Met}
use lib.ListN.{length}
use Rattle.lists.proofs.replay_all.Given as goal

abbrev pub invariant-loop-at : goal.invariant-loop-at
invariant-loop-at g l = record {
  within : l.at ≤ length l.s;
  can : g.T.Replay.can_turn l.s l.at l.totals;
  met : Met (g.T.Replay.turn_of l.s) (length l.s) l.fn.start l.at l.totals;
}

abbrev pub decreases-loop-at : goal.decreases-loop-at
decreases-loop-at g l = length l.s - l.at
