-- why::of_row meets its contract.
use Rattle.why.specs.Why.{why_by}
use mathlib.Core.Path.{ap₂, ◌∙◌}
use Rattle.why.proofs.of_row.Goals as goal

pub returns : goal.returns
returns c = c.answer.ensures ∙ ap₂ why_by c.reason_of-reason.ensures c.terms_of.ensures
