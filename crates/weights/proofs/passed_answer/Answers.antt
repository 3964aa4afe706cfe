-- weights::passed_answer meets its contract.
use Rattle.weights.specs.Answers.{passed_answer}
use borrow.Author.Tests.{lt-ltb, le-ltb}
use Rattle.weights.proofs.passed_answer.Goals as goal

pub returns-then-j-records : goal.returns-then-j-records
unfolding passed_answer
returns-then-j-records c = rw (← c.first_disagreeing-j.ensures, lt-ltb _ _ c.if-j-records.true)

pub returns : goal.returns
unfolding passed_answer
returns c = rw (← c.first_disagreeing-j.ensures, le-ltb _ _ c.if-j-records.false) c.look_up.ensures
