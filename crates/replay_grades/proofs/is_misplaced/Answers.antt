-- replay_grades::is_misplaced meets its contract.
use borrow.Author.Rules.{rules}
use borrow.Author.Tests.{tests}
use lib.ListN.{length}
use Rattle.ranges.specs.Ranges.{any_is}
use Rattle.replay_grades.specs.Cases.{misplaced}
use Rattle.replay_grades.proofs.is_misplaced.Goals as goal

pub returns : goal.returns
returns c = let a = c.args in any_is (misplaced a.s.now a.at a.cells a.left.now) (length a.left.now) c.any.ensures.ran (λ x b q k. search (rules, tests))
