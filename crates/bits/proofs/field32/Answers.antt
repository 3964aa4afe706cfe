-- bits::field32 meets its contract.
use borrow.Author.Rules.{rules}
use Rattle.bits.proofs.field32.Goals as goal

pub overflow_cast-result : goal.overflow_cast-result
overflow_cast-result c = let f = c.in_word.ensures.small in search rules

pub returns : goal.returns
returns c = c.in_word.ensures.is
