-- decisions::decision meets its contract.
use mathlib.Core.Path.{refl}
use Rattle.decisions.specs.Decisions.{told}
use Rattle.scale.specs.Scale.{sentinel}
use borrow.Author.Tests.{lt-ltb, le-ltb}
use native.Mathlib.Omega.{arith}
use Rattle.decisions.proofs.decision.Goals as goal

pub returns-then-stops-place : goal.returns-then-stops-place
unfolding told
returns-then-stops-place c = let a = c.args in rw (le-ltb a.place a.stops.count (omega (arith, c.if-stops-place.true)))

pub returns-then-cell-ge-SENTINEL : goal.returns-then-cell-ge-SENTINEL
unfolding told
returns-then-cell-ge-SENTINEL c = let a = c.args in rw (lt-ltb a.place a.stops.count (omega (arith, c.if-stops-place.false)), le-ltb a.cell sentinel (omega (arith, c.if-cell-ge-SENTINEL.true)))

pub returns : goal.returns
unfolding told
returns c = let a = c.args in rw (lt-ltb a.place a.stops.count (omega (arith, c.if-stops-place.false)), lt-ltb a.cell sentinel (omega (arith, c.if-cell-ge-SENTINEL.false))) refl
