-- every_matrix::line_of meets its contract.
use Rattle.every_matrix.proofs.Characters.{characters}
use Rattle.every_matrix.proofs.line_of.Goals as goal

pub digit-requires : goal.digit-requires
digit-requires c = c.requires.digit 0

pub digit-requires-2 : goal.digit-requires-2
digit-requires-2 c = c.requires.digit 1

pub digit-requires-3 : goal.digit-requires-3
digit-requires-3 c = c.requires.digit 2

pub digit-requires-4 : goal.digit-requires-4
digit-requires-4 c = c.requires.digit 3

pub digit-requires-5 : goal.digit-requires-5
digit-requires-5 c = c.requires.digit 4

pub digit-requires-6 : goal.digit-requires-6
digit-requires-6 c = c.requires.digit 5

pub returns : goal.returns
returns c =
    let s = c in
    rw (c.digit.ensures, c.digit-2.ensures, c.digit-3.ensures, c.digit-4.ensures, c.digit-5.ensures, c.digit-6.ensures, c.digit-7.ensures, c.digit-8.ensures, c.digit-9.ensures)
    (characters s.args.cells s.args.columns.first s.args.columns.second s.args.total s.requires)
