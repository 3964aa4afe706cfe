-- multiply_add::words::Wide::shifted meets its contract.
use Rattle.std.proofs.Common.{arith}
use Rattle.multiply_add.proofs.WordLaws.{shift_holds}
use Rattle.multiply_add.proofs.words.Wide.shifted.Goals as goal

pub returns : goal.returns
returns c = shift_holds _ _ 64 _ _ _ _ c.from.ensures c.ranges.x.fits (omega arith) (omega (arith, c.requires)) c.of.ensures
