-- multiply_add::sum::align_below meets its contract.
use Rattle.multiply_add.proofs.SumLaws.{below_exact, below_cut}
use Rattle.multiply_add.proofs.sum.align_below.Goals as goal

pub returns-then-d-lt74 : goal.returns-then-d-lt74
returns-then-d-lt74 c =
    let s = c in
    below_exact s.args.product.hi s.args.product.lo s.args.p s.args.c s.args.q s.requires.0 _ _ s.requires.1 c.significand.ensures

pub returns-else-d-lt74 : goal.returns-else-d-lt74
returns-else-d-lt74 c =
    let s = c in
    below_cut s.args.product.hi s.args.product.lo s.args.p s.args.c s.args.q s.requires.0 _ _ s.requires.1 c.if-d-lt74.false
    c.sticky-leading.ensures c.shift_right_jam.ensures
