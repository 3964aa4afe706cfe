-- lists::part_length meets its contract.
use Rattle.std.proofs.Common.{◌-◌, length, ap, lt-ltb, le-ltb}
use Rattle.std.specs.Prelude.{Some}
use Rattle.lists.specs.Lists.{number, part_length}
use Rattle.lists.proofs.part_length.Goals as goal

pub returns-then-left-others-clause-is : goal.returns-then-left-others-clause-is
unfolding part_length
returns-then-left-others-clause-is c = let a = c.args in rw (lt-ltb (length a.s.now - a.at) a.others c.if-left-others.true)

pub returns-then-left-others-2-clause-is : goal.returns-then-left-others-2-clause-is
unfolding part_length
returns-then-left-others-2-clause-is c =
    let a = c.args in
    let short = rw c.number-n.ensures.0 at c.if-left-others-2.true in
    rw (le-ltb (length a.s.now - a.at) a.others c.if-left-others.false, lt-ltb (length a.s.now - a.at - a.others) (number a.s.now a.at 2) short)

pub returns-else-left-others-2-clause-is : goal.returns-else-left-others-2-clause-is
unfolding part_length
returns-else-left-others-2-clause-is c =
    let a = c.args in
    let whole = rw c.number-n.ensures.0 at c.if-left-others-2.false in
    rw (le-ltb (length a.s.now - a.at) a.others c.if-left-others.false, le-ltb (length a.s.now - a.at - a.others) (number a.s.now a.at 2) whole)
    (ap Some c.number-n.ensures.0)
