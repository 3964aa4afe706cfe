-- candidates::precedes meets its contract.
use Rattle.assignment.specs.Candidates.{precedes}
use mathlib.Core.Path.{refl}
use Rattle.candidates.proofs.precedes.Goals as goal

pub returns-then-e-d : goal.returns-then-e-d
unfolding precedes
returns-then-e-d c = simp c.if-e-d.true

pub returns-then-d-e : goal.returns-then-d-e
unfolding precedes
returns-then-d-e c = simp (c.if-e-d.false, c.if-d-e.true)

pub returns : goal.returns
unfolding precedes
returns c = simp (c.if-e-d.false, c.if-d-e.false) refl
