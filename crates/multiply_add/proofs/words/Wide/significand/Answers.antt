-- multiply_add::words::Wide::significand meets its contract.
use Rattle.std.proofs.Common.{arith}
use Rattle.multiply_add.proofs.WordLaws.{shift_holds}
use Rattle.multiply_add.proofs.words.Wide.significand.Goals as goal

pub returns : goal.returns
returns c = shift_holds _ _ 53 _ 63 _ _ c.from.ensures c.requires.0 (omega (arith, c.requires.1)) (omega arith) c.of.ensures
