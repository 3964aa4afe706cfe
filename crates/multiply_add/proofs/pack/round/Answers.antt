-- multiply_add::pack::round meets its contract.
use Rattle.std.proofs.Common.{refl, ◌∙◌, inl, arith, lit<, lit≤}
use lib.Count.{leading_le}
use Rattle.multiply_add.proofs.PackLaws.{round_none, keeps, packs, round_some}
use Rattle.multiply_add.proofs.pack.round.Goals as goal

pub pack-requires : goal.pack-requires
pack-requires c = record { most = lit≤ tt; least = inl refl; place = lit< tt }

pub returns-then-w-eq0 : goal.returns-then-w-eq0
returns-then-w-eq0 c =
    c.pack.ensures ∙ round_none c.args.neg c.args.w c.args.at c.if-w-eq0.true

pub overflow_cast-z : goal.overflow_cast-z
overflow_cast-z c = omega (arith, leading_le 64 c.args.w)

pub overflow_sub-z : goal.overflow_sub-z
overflow_sub-z c = omega (arith, leading_le 64 c.args.w)

pub rounded-q-requires : goal.rounded-q-requires
rounded-q-requires c =
    let s = c in keeps s.args.neg s.args.w s.args.at s.ranges.w.fits c.if-w-eq0.false _ s.requires
    c.dropped-k.ensures

pub pack-requires-2 : goal.pack-requires-2
pack-requires-2 c =
    let s = c in packs s.args.neg s.args.w s.args.at s.ranges.w.fits
    c.if-w-eq0.false _ _ s.requires c.dropped-k.ensures c.rounded-q.ensures

pub returns : goal.returns
returns c =
    let s = c in c.pack-2.ensures
    ∙ round_some s.args.neg s.args.w s.args.at s.ranges.w.fits
    c.if-w-eq0.false _ _ c.dropped-k.ensures c.rounded-q.ensures
