-- multiply_add::words::Wide::shift_left meets its contract.
use Rattle.std.proofs.Common.{arith}
use Rattle.multiply_add.proofs.WordLaws.{shift_holds}
use Rattle.multiply_add.proofs.words.Wide.shift_left.Goals as goal

pub returns : goal.returns
returns c =
    shift_holds _ _ 106 _ 63 _ _ (omega (arith, c.from.ensures, c.from-2.ensures, c.requires.0)) (omega (arith, c.requires.0, c.well_formed))
    (omega (arith, c.requires.1)) (omega arith) c.of.ensures
