-- manifest::stop_index meets its contract.
use Rattle.manifest.specs.Stops.{index_at, search_start, search_on, search_none}
use mathlib.Core.Path.{sym}
use native.Mathlib.Omega.{arith}
use Rattle.manifest.proofs.stop_index.Goals as goal

pub loop-size-init : goal.loop-size-init
loop-size-init c = search_start _ _ _

pub overflow_add-base : goal.overflow_add-base
overflow_add-base c = omega (arith, c.loop-size.invariant.within, c.requires.0)

pub offset_bounds-ids-base : goal.offset_bounds-ids-base
offset_bounds-ids-base c = omega (arith, c.loop-size.invariant.within, c.requires.0)

pub bounds-ids-base : goal.bounds-ids-base
bounds-ids-base c = omega (arith, c.loop-size.invariant.within, c.requires.0)

pub overflow_add-base-in-loop-size : goal.overflow_add-base-in-loop-size
overflow_add-base-in-loop-size c =
    let m = search_on _ _ _ c.requires.1 _ _ c.loop-size.invariant c.loop-size-test.true c.half_if-base.ensures in
    omega (arith, m.within, c.requires.0)

pub loop-size-smaller : goal.loop-size-smaller
loop-size-smaller c = omega arith

pub loop-size-preserved : goal.loop-size-preserved
loop-size-preserved c = search_on _ _ _ c.requires.1 _ _ c.loop-size.invariant c.loop-size-test.true c.half_if-base.ensures

pub returns-then-ids-base : goal.returns-then-ids-base
returns-then-ids-base c = sym (index_at _ _ c.requires.1 _ _ c.if-base-n.true c.if-ids-base.true)

pub returns-else-ids-base : goal.returns-else-ids-base
returns-else-ids-base c = search_none _ _ _ _ _ c.loop-size.invariant c.loop-size-test.false (λ l. c.if-ids-base.false)

pub returns-else-base-n : goal.returns-else-base-n
returns-else-base-n c = search_none _ _ _ _ _ c.loop-size.invariant c.loop-size-test.false (λ l. absurd (omega (arith, c.if-base-n.false)))
