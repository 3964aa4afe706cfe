-- mask::list_ones meets its contract.
use Prim.Native.Nat.{ℕ, ◌-◌, ◌≤◌}
use Rattle.laws.specs.Folds.{count-le}
use Rattle.mask.specs.Mask.{has}
use Rattle.mask.specs.MaskLaws.{past_some}
use Rattle.mask.specs.Ones.{Listing, listing_start, listing_take, listing_skip, listing_end}
use mathlib.Core.List.{List}
use mathlib.Core.Path.{sym, ◌∙◌}
use native.Mathlib.Omega.{arith}
use Rattle.mask.proofs.list_ones.Goals as goal
use Rattle.mask.proofs.list_ones.Goals.{then-has, else-has}

few : {mask j count : ℕ} {at : List ℕ} → Listing mask j count at → count ≤ j
few {mask} {j} l = omega (arith, l.counted, count-le (has mask) j)

pub loop-at-init : goal.loop-at-init
loop-at-init c = listing_start c.args.mask

pub has-requires : goal.has-requires
has-requires c = past_some c.args.mask c.loop-at.j c.past_stops.ensures c.loop-at-test.true

pub offset_bounds-at-count : goal.offset_bounds-at-count
offset_bounds-at-count c = let l = c.loop-at in omega (arith, few l.invariant, l.invariant.below)

pub bounds-at-count : goal.bounds-at-count
bounds-at-count c =
    let l = c.loop-at in
    omega (arith, few l.invariant, past_some c.args.mask c.loop-at.j c.past_stops.ensures c.loop-at-test.true)

pub overflow_add-count : goal.overflow_add-count
overflow_add-count c = let l = c.loop-at in omega (arith, few l.invariant, l.invariant.below)

pub overflow_add-j : goal.overflow_add-j
overflow_add-j c = omega (arith, c.loop-at.invariant.below)

pub loop-at-smaller : goal.loop-at-smaller
loop-at-smaller c = let here = past_some c.args.mask c.loop-at.j c.past_stops.ensures c.loop-at-test.true in omega arith

pub loop-at-preserved : goal.loop-at-preserved
loop-at-preserved c =
    let l = c.loop-at in
    let mask = c.args.mask in
    let here = past_some c.args.mask c.loop-at.j c.past_stops.ensures c.loop-at-test.true in
    elim c.if-has.branch [
      | then-has w ↦ rw (w.at-is, w.count-is) (listing_take mask l.j l.count l.at l.invariant here (sym c.has.ensures ∙ w.if-has.true))
      | else-has w ↦ rw (w.at-is, w.count-is) (listing_skip mask l.j l.count l.at l.invariant here (sym c.has.ensures ∙ w.if-has.false))
    ]

pub returns : goal.returns
returns c =
    let l = c.loop-at in
    listing_end c.args.mask l.j l.count l.at l.invariant (sym c.past_stops.ensures ∙ c.loop-at-test.false)
