-- multiply_add::pack::normalise meets its contract.
use Rattle.std.proofs.Common.{arith}
use lib.Count.{leading_le}
use Rattle.multiply_add.proofs.PackLaws.{zeros_lt, top_fits, normalise_some, normalise_none}
use Rattle.multiply_add.proofs.pack.normalise.Goals as goal

pub shifted-low-requires : goal.shifted-low-requires
shifted-low-requires c = zeros_lt c.args.n.hi (omega arith) c.if-n-eq0.false

pub overflow_sub-result : goal.overflow_sub-result
overflow_sub-result c = leading_le 64 c.args.n.hi

pub overflow_add-leading : goal.overflow_add-leading
overflow_add-leading c = record {
  fits = top_fits c.args.n.hi (omega arith) c.if-n-eq0.false c.args.n.lo _ _ c.shifted-low.ensures;
}

pub returns-then-n-eq0 : goal.returns-then-n-eq0
returns-then-n-eq0 c = normalise_none c.args.n.hi c.args.n.lo c.if-n-eq0.true

pub returns-else-n-eq0 : goal.returns-else-n-eq0
returns-else-n-eq0 c =
    normalise_some c.args.n.hi (omega arith)
    c.if-n-eq0.false c.args.n.lo _ _ _ c.shifted-low.ensures
    c.sticky.ensures
