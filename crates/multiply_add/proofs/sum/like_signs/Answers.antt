-- multiply_add::sum::like_signs meets its contract.
use Rattle.multiply_add.proofs.SumLaws.{sums_plus}
use Rattle.multiply_add.proofs.sum.like_signs.Goals as goal

pub returns : goal.returns
returns c = sums_plus _ _ _ _ c.plus.ensures
