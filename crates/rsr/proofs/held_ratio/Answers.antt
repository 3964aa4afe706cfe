-- rsr::held_ratio meets its contract.
use mathlib.Core.Path.{refl}
use Rattle.rsr.specs.Rsr.{held_ratio}
use Rattle.rsr.proofs.held_ratio.Goals as goal

pub returns-then-x : goal.returns-then-x
unfolding held_ratio
returns-then-x c = simp c.if-x.true refl

pub returns-then-x-2 : goal.returns-then-x-2
unfolding held_ratio
returns-then-x-2 c = simp (c.if-x.false, c.if-x-2.true) refl

pub returns-else-x-2 : goal.returns-else-x-2
unfolding held_ratio
returns-else-x-2 c = simp (c.if-x.false, c.if-x-2.false) refl
