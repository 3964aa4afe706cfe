-- square_root::whole_root meets its contract.
use Rattle.square_root.proofs.Turns.{turn_one, turn_none, turn_same}
use Rattle.square_root.proofs.whole_root.Goals as goal
use Rattle.square_root.proofs.whole_root.Goals.{then-passed-whole, else-passed-whole}

pub loop-preserved : goal.loop-preserved
loop-preserved c =
    let l = c.loop in
    let d = c.args.d in
    let i = c.loop-test.true in
    let x = c.if-passed-whole in
    elim x.branch [
      | then-passed-whole w ↦
          turn_same d _ _ _ _ x.whole x.rest w.whole-is w.rest-is (turn_one d l.whole l.rest l.to_come l.counter i l.invariant w.if-passed-whole.true)
      | else-passed-whole w ↦
          turn_same d _ _ _ _ x.whole x.rest w.whole-is w.rest-is (turn_none d l.whole l.rest l.to_come l.counter i l.invariant w.if-passed-whole.false)
    ]
