-- weights::first_taken meets its contract.
use Rattle.weight_store.specs.Keys.{held_entry, held_issue}
use Rattle.weights.specs.Columns.{last_key}
use Rattle.weights.proofs.ColumnLaws.{least_none, least_next, takes_over, stays_best}
use Rattle.weights.proofs.Leads.{best_none, best_taken}
use Rattle.laws.specs.Bools.{both_right}
use borrow.Author.Tests.{leb-true}
use lib.Dec.{leb}
use lib.ListN.{length, get_or}
use mathlib.Core.Path.{◌≡◌, sym}
use native.Mathlib.Omega.{arith}
use Rattle.weights.proofs.first_taken.Goals as goal
use Rattle.weights.proofs.first_taken.Goals.{else-least-key, then-least-key}

pub loop-i-init : goal.loop-i-init
loop-i-init c = (omega arith, rw c.from-least.ensures (least_none _ _ _), λ values. best_none _ _ _ _)

pub overflow_add-least : goal.overflow_add-least
overflow_add-least c =
    let a = c.args in
    let k = get_or a.keys.now c.loop-i.i 0 in
    let b = leb-true k (last_key a.day a.slot) (both_right (leb c.loop-i.least k) _ (rw (c.from-least.ensures, c.from.ensures) at c.if-least-key.true)) in
    record { fits = omega (arith, b, c.ranges.day.fits, c.ranges.slot.fits) }

pub loop-i-preserved : goal.loop-i-preserved
loop-i-preserved c =
    let a = c.args in
    let l = c.loop-i in
    let t = c.loop-i-test.true in
    let d = c.ranges.day.fits in
    (elim c.if-least-key.branch [
      | then-least-key x ↦ rw (x.least-is, x.best-is) (
        omega arith,
        least_next (length a.keys.now) a.keys.now a.slot l.i t,
        λ values. takes_over (length a.keys.now) a.keys.now values a.day a.slot l.i l.best d t l.invariant.1 (rw (c.from-least.ensures, c.from.ensures) at x.if-least-key.true) (l.invariant.2 values),
      )
      | else-least-key x ↦ rw (x.least-is, x.best-is) (
        omega arith,
        l.invariant.1,
        λ values. stays_best (length a.keys.now) a.keys.now values a.day a.slot l.i l.best d t l.invariant.1 (rw (c.from-least.ensures, c.from.ensures) at x.if-least-key.false) (l.invariant.2 values),
      )
    ])

pub returns : goal.returns
returns c = λ values.
    let a = c.args in
    let l = c.loop-i in
    let e : l.i ≡ (length a.keys.now) = omega (arith, l.invariant.0, c.loop-i-test.false) in
    sym (best_taken (length a.keys.now) (held_entry a.keys.now values) a.day a.slot (held_issue a.keys.now values) l.best (rw e at (l.invariant.2 values)))
