-- multiply_add::sum::align_above meets its contract.
use Rattle.multiply_add.proofs.SumLaws.{above_exact, above_cut}
use Rattle.multiply_add.proofs.sum.align_above.Goals as goal

pub returns-then-d-lt22 : goal.returns-then-d-lt22
returns-then-d-lt22 c =
    let s = c in
    above_exact s.args.product.hi s.args.product.lo s.args.p s.args.c s.args.q s.requires.0 _ _ s.requires.1 c.shift_left.ensures

pub returns-else-d-lt22 : goal.returns-else-d-lt22
returns-else-d-lt22 c =
    let s = c in
    above_cut s.args.product.hi s.args.product.lo s.args.p s.args.c s.args.q s.requires.0 _ _ _ s.requires.1 c.if-d-lt22.false
    c.shift_left-else-d-lt22.ensures c.shift_right_jam.ensures
