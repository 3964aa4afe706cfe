-- multiply_add::words::shift_right_jam meets its contract.
use Rattle.multiply_add.proofs.WordLaws.{shift_jam_whole, shift_jam_odd, shift_jam_none, shift_jam_all}
use Rattle.std.proofs.Common.{arith}
use Rattle.multiply_add.proofs.words.shift_right_jam.Goals as goal

pub overflow_add-result : goal.overflow_add-result
overflow_add-result c =
    let h = shift_jam_odd c.args.x c.args.k c.ranges.x.fits c.if-q-k.false in omega
    (arith, h.small)

pub returns-then-q-k : goal.returns-then-q-k
returns-then-q-k c = shift_jam_whole c.args.x c.args.k c.ranges.x.fits c.if-q-k.true

pub returns-else-q-k : goal.returns-else-q-k
returns-else-q-k c = shift_jam_odd c.args.x c.args.k c.ranges.x.fits c.if-q-k.false

pub returns-then-x-eq0 : goal.returns-then-x-eq0
returns-then-x-eq0 c = shift_jam_none c.args.x c.args.k c.if-x-eq0.true

pub returns-else-x-eq0 : goal.returns-else-x-eq0
returns-else-x-eq0 c =
    shift_jam_all c.args.x c.args.k c.ranges.x.fits c.if-k-lt64.false c.if-x-eq0.false
