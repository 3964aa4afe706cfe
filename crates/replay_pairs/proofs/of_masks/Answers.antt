-- replay_pairs::of_masks meets its contract.
use borrow.Author.Rules.{rules}
use borrow.Author.Tests.{tests}
use Rattle.ranges.specs.Ranges.{any_is}
use Rattle.replay_pairs.specs.Added.{of_mask}
use Rattle.replay_pairs.proofs.of_masks.Goals as goal

pub returns : goal.returns
returns c = let a = c.args in any_is (of_mask a.c a.b) a.c.cars c.any.ensures.ran (λ x b q k. search (rules, tests))
