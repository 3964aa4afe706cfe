-- replay_pairs::agree meets its contract.
use borrow.Author.Rules.{rules}
use borrow.Author.Tests.{tests}
use lib.ListN.{length}
use Rattle.std.proofs.Common.{◌∙◌, ne_eqb}
use Rattle.ranges.specs.Ranges.{every_is}
use Rattle.replay_pairs.specs.Pairs.{agree_at, agree_no, agree_is}
use Rattle.replay_pairs.proofs.agree.Goals as goal

pub returns-then-first-second : goal.returns-then-first-second
returns-then-first-second c =
    let a = c.args in
    agree_is a.first.now a.second.now c.if-first-second.true
    (every_is (agree_at a.first.now a.second.now) (length a.first.now) c.all.ensures.ran (λ x b q k. search (rules, tests)))

pub returns-else-first-second : goal.returns-else-first-second
returns-else-first-second c =
    let a = c.args in
    ne_eqb (length a.first.now) (length a.second.now) c.if-first-second.false ∙ agree_no a.first.now a.second.now c.if-first-second.false
