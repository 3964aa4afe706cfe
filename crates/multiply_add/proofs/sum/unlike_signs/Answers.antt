-- multiply_add::sum::unlike_signs meets its contract.
use Rattle.std.proofs.Common.{rules}
use Rattle.multiply_add.proofs.SumLaws.{sums_less, sums_more, sums_none}
use Rattle.multiply_add.proofs.sum.unlike_signs.Goals as goal

pub returns-then-lt : goal.returns-then-lt
returns-then-lt c = sums_less _ _ _ _ (search rules) c.minus.ensures

pub returns-then-lt-2 : goal.returns-then-lt-2
returns-then-lt-2 c = sums_more _ _ _ _ (search rules) (search rules) c.minus-sum.ensures

pub returns-else-lt-2 : goal.returns-else-lt-2
returns-else-lt-2 c = sums_none _ _ _ _ (search rules) (search rules) c.minus-sum.ensures
