-- replay_pairs::added meets its contract.
use Prim.Native.Nat.{◌*◌}
use borrow.Author.Rules.{rules}
use borrow.Author.Tests.{tests}
use lib.ListN.{length}
use Rattle.ranges.specs.Ranges.{every_is}
use Rattle.replay_pairs.specs.Added.{added_at}
use Rattle.replay_pairs.proofs.added.Goals as goal

pub returns : goal.returns
returns c =
    let a = c.args in
    every_is (added_at a.c a.first.now a.second.now) (8 * length a.first.now) c.all.ensures.ran (λ x b q k. search (rules, tests))
