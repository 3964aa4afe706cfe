-- covered::covered_mask meets its contract.
use Prim.Native.Nat.{◌-◌}
use Rattle.covered.specs.Same.{covered_in}
use Rattle.mask.specs.MaskLaws.{past_some, past_none}
use Rattle.mask.specs.UpTo.{none_yet, one_more, up_to}
use mathlib.Core.Path.{refl, sym, ◌∙◌}
use native.Mathlib.Omega.{arith}
use Rattle.covered.proofs.covered_mask.Goals as goal

pub loop-covered-init : goal.loop-covered-init
loop-covered-init c = (omega arith, none_yet _)

pub offset_bounds-names-j : goal.offset_bounds-names-j
offset_bounds-names-j c = omega (arith, c.loop-covered.invariant.0)

pub bounds-names-j : goal.bounds-names-j
bounds-names-j c =
    let here = past_some c.args.asked c.loop-covered.j c.past_stops.ensures c.loop-covered-test.true in omega (arith, c.requires)

pub covered_at-covered-requires : goal.covered_at-covered-requires
covered_at-covered-requires c = past_some c.args.asked c.loop-covered.j c.past_stops.ensures c.loop-covered-test.true

pub with_if-m-requires : goal.with_if-m-requires
with_if-m-requires c = past_some c.args.asked c.loop-covered.j c.past_stops.ensures c.loop-covered-test.true

pub overflow_add-j : goal.overflow_add-j
overflow_add-j c = omega (arith, c.loop-covered.invariant.0)

pub loop-covered-smaller : goal.loop-covered-smaller
loop-covered-smaller c = let here = past_some c.args.asked c.loop-covered.j c.past_stops.ensures c.loop-covered-test.true in omega arith

pub loop-covered-preserved : goal.loop-covered-preserved
unfolding covered_in
loop-covered-preserved c =
    let here = past_some c.args.asked c.loop-covered.j c.past_stops.ensures c.loop-covered-test.true in
    (omega arith, one_more _ c.loop-covered.j _ _ c.loop-covered.invariant.1 c.covered_at-covered.ensures c.with_if-m.ensures)

pub returns : goal.returns
unfolding covered_in
returns c =
    let j = c.loop-covered.j in
    up_to _ j _ c.loop-covered.invariant.1
    (λ k l f. rw (past_none c.args.asked j k (sym c.past_stops.ensures ∙ c.loop-covered-test.false) l f) refl)
