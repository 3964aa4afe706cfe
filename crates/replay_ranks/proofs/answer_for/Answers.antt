-- replay_ranks::answer_for meets its contract.
use borrow.Author.Tests.{lt-ltb, le-ltb}
use mathlib.Core.Path.{ap, ◌∙◌}
use Rattle.layout.specs.Records.{sheet_of}
use Rattle.replay_ranks.specs.Ranks.{answer_of, answer_for}
use Rattle.replay_ranks.proofs.answer_for.Goals as goal

pub returns-then-from-i : goal.returns-then-from-i
unfolding answer_for sheet_of
returns-then-from-i c = let a = c.args in rw (le-ltb a.i a.c.cars (rw c.from.ensures at c.if-from-i.true))

pub returns-then-from-j : goal.returns-then-from-j
unfolding answer_for sheet_of
returns-then-from-j c =
    let a = c.args in
    rw (lt-ltb a.i a.c.cars (rw c.from.ensures at c.if-from-i.false), le-ltb a.j a.c.stops (rw c.from-2.ensures at c.if-from-j.true))

pub returns : goal.returns
unfolding answer_for sheet_of
returns c =
    let a = c.args in
    rw (lt-ltb a.i a.c.cars (rw c.from.ensures at c.if-from-i.false), lt-ltb a.j a.c.stops (rw c.from-2.ensures at c.if-from-j.false))
    (c.answer_of.ensures ∙ ap answer_of c.rank_of.ensures)
