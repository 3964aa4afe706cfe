-- multiply_add::pack::nearest meets its contract.
use Rattle.std.proofs.Common.{arith}
use Rattle.multiply_add.proofs.PackLaws.{nearest_none, shifted_le, nearest_down, nearest_tie, nearest_up, quotient_small}
use Rattle.multiply_add.proofs.PackLaws.{nearest_none_left}
use Rattle.multiply_add.proofs.pack.nearest.Goals as goal

pub returns-then-t-eq0 : goal.returns-then-t-eq0
returns-then-t-eq0 c = nearest_none c.args.w c.args.t c.if-t-eq0.true

pub overflow_sub-rest : goal.overflow_sub-rest
overflow_sub-rest c =
    shifted_le c.args.w c.args.t c.ranges.w.fits c.if-t-eq0.false c.if-t-lt64.true

pub overflow_add-result : goal.overflow_add-result
overflow_add-result c =
    let h = quotient_small c.args.w c.args.t
    c.ranges.w.fits c.if-t-eq0.false c.if-t-lt64.true in omega arith

pub overflow_add-result-else-rest-half-2 : goal.overflow_add-result-else-rest-half-2
overflow_add-result-else-rest-half-2 c =
    let h = quotient_small c.args.w c.args.t
    c.ranges.w.fits c.if-t-eq0.false c.if-t-lt64.true in omega arith

pub returns-then-rest-half : goal.returns-then-rest-half
returns-then-rest-half c =
    nearest_down c.args.w c.args.t c.ranges.w.fits
    c.if-t-eq0.false c.if-t-lt64.true c.if-rest-half.true

pub returns-then-rest-half-2 : goal.returns-then-rest-half-2
returns-then-rest-half-2 c =
    nearest_tie c.args.w c.args.t
    c.ranges.w.fits c.if-t-eq0.false c.if-t-lt64.true c.if-rest-half-2.true

pub returns-else-rest-half-2 : goal.returns-else-rest-half-2
returns-else-rest-half-2 c =
    nearest_up c.args.w c.args.t
    c.ranges.w.fits c.if-t-eq0.false c.if-t-lt64.true c.if-rest-half.false
    c.if-rest-half-2.false

pub returns-else-t-eq64 : goal.returns-else-t-eq64
returns-else-t-eq64 c =
    nearest_none_left c.args.w c.args.t c.ranges.w.fits
    c.if-t-lt64.false c.if-t-eq64.false
