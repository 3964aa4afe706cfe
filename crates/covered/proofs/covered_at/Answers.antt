-- covered::covered_at meets its contract.
use mathlib.Core.Path.{sym, ◌∙◌}
use Rattle.covered.proofs.covered_at.Goals as goal

pub returns-then-has : goal.returns-then-has
returns-then-has c = rw (sym c.has.ensures ∙ c.if-has.true) c.is_covered.ensures

pub returns-else-has : goal.returns-else-has
returns-else-has c = rw (sym c.has.ensures ∙ c.if-has.false) c.if-has.false
