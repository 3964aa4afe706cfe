-- candidates::is_kept meets its contract.
use Rattle.assignment.specs.Candidates.{keeps}
use Rattle.candidates.specs.Cut.{cut}
use borrow.Author.Tests.{eq-eqb, ne_eqb}
use mathlib.Core.Path.{refl, sym, ◌∙◌}
use Rattle.candidates.proofs.is_kept.Goals as goal

pub returns-then-not-has : goal.returns-then-not-has
unfolding cut
returns-then-not-has c = simp (sym c.has.ensures ∙ c.if-not-has.true)

pub returns-then-limit-eq-NO_LIMIT : goal.returns-then-limit-eq-NO_LIMIT
unfolding cut keeps
returns-then-limit-eq-NO_LIMIT c = simp (sym c.has.ensures ∙ c.if-not-has.false, eq-eqb _ _ c.if-limit-eq-NO_LIMIT.true)

pub returns-else-limit-eq-NO_LIMIT : goal.returns-else-limit-eq-NO_LIMIT
unfolding cut keeps
returns-else-limit-eq-NO_LIMIT c =
    simp (sym c.has.ensures ∙ c.if-not-has.false, ne_eqb _ _ c.if-limit-eq-NO_LIMIT.false, sym c.count_before.ensures) refl
