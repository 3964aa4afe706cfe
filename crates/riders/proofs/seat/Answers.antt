-- riders::seat meets its contract.
use Rattle.manifest.specs.Stops.{side_of, point_in}
use Rattle.riders.specs.Riders.{seated}
use borrow.Author.Tests.{lt-ltb, le-ltb}
use mathlib.Core.Path.{refl}
use native.Mathlib.Nat.{add-zero}
use Rattle.riders.proofs.seat.Goals as goal

pub returns-then-index-stops : goal.returns-then-index-stops
unfolding seated point_in
returns-then-index-stops c =
    let point = c.point-p.ensures in
    let index = c.index-index.ensures in
    let known = lt-ltb _ _ c.if-index-stops.true in
    record {
      answered = simp (← index, known, c.with.ensures) refl;
      held = simp (← index, known, point) refl;
      aside = simp (← index, known, side_of, point) refl;
    }

pub returns-else-index-stops : goal.returns-else-index-stops
unfolding seated
returns-else-index-stops c =
    let index = c.index-index.ensures in
    let unknown = le-ltb _ _ c.if-index-stops.false in
    record {
      answered = simp (← index, unknown, add-zero) refl;
      held = simp (← index, unknown) refl;
      aside = simp (← index, unknown) refl;
    }
