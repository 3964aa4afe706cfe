-- candidates::cut_stops meets its contract.
use Rattle.candidates.specs.Cut.{cut}
use Rattle.mask.specs.MaskLaws.{past_some, past_none}
use Rattle.mask.specs.UpTo.{none_yet, one_more, up_to}
use mathlib.Core.Path.{refl, sym, ◌∙◌}
use native.Mathlib.Omega.{arith}
use Rattle.candidates.proofs.cut_stops.Goals as goal

pub loop-m-init : goal.loop-m-init
loop-m-init c = let a = c.args in (omega arith, none_yet (cut a.viable a.ds.now a.limit))

pub is_kept-requires : goal.is_kept-requires
is_kept-requires c =
    (c.requires, past_some c.args.viable c.loop-m.j c.past_stops.ensures c.loop-m-test.true, c.reach-e.ensures)

pub with_if-m-requires : goal.with_if-m-requires
with_if-m-requires c = past_some c.args.viable c.loop-m.j c.past_stops.ensures c.loop-m-test.true

pub overflow_add-j : goal.overflow_add-j
overflow_add-j c = omega (arith, c.loop-m.invariant.0)

pub loop-m-smaller : goal.loop-m-smaller
loop-m-smaller c = let here = past_some c.args.viable c.loop-m.j c.past_stops.ensures c.loop-m-test.true in omega arith

pub loop-m-preserved : goal.loop-m-preserved
loop-m-preserved c =
    let a = c.args in
    let here = past_some a.viable c.loop-m.j c.past_stops.ensures c.loop-m-test.true in
    (omega arith, one_more (cut a.viable a.ds.now a.limit) c.loop-m.j _ _ c.loop-m.invariant.1 c.is_kept.ensures c.with_if-m.ensures)

pub returns : goal.returns
unfolding cut
returns c =
    let a = c.args in
    let j = c.loop-m.j in
    up_to (cut a.viable a.ds.now a.limit) j _ c.loop-m.invariant.1
    (λ k l f. rw (past_none a.viable j k (sym c.past_stops.ensures ∙ c.loop-m-test.false) l f) refl)
