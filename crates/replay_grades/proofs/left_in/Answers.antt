-- replay_grades::left_in meets its contract.
use borrow.Author.Tests.{lt-ltb, le-ltb}
use Rattle.replay_grades.specs.Cases.{left_in}
use Rattle.replay_grades.proofs.left_in.Goals as goal

pub returns-then-k-cells : goal.returns-then-k-cells
unfolding left_in
returns-then-k-cells c = let a = c.args in rw (lt-ltb a.k a.cells c.if-k-cells.true) c.number.ensures.0

pub returns : goal.returns
unfolding left_in
returns c = let a = c.args in rw (le-ltb a.k a.cells c.if-k-cells.false)
