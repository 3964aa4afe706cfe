-- refusals_policy::unused_weights meets its contract.
use Rattle.components.specs.Codes.{strategy_of}
use Rattle.layout.specs.Refusals.{refusal8_policy}
use mathlib.Core.Path.{sym, ap, ◌∙◌}
use Rattle.refusals_policy.proofs.unused_weights.Goals as goal

pub returns-in-Etd : goal.returns-in-Etd
unfolding refusal8_policy
returns-in-Etd c = rw (sym (c.of_code-strategy.ensures.is ∙ ap strategy_of c.field.ensures.is) ∙ c.in-Etd.is, c.field-in-Etd.ensures.is)

pub returns-in-Rsr : goal.returns-in-Rsr
unfolding refusal8_policy
returns-in-Rsr c = rw (sym (c.of_code-strategy.ensures.is ∙ ap strategy_of c.field.ensures.is) ∙ c.in-Rsr.is)

pub returns-in-Scan : goal.returns-in-Scan
unfolding refusal8_policy
returns-in-Scan c = rw (sym (c.of_code-strategy.ensures.is ∙ ap strategy_of c.field.ensures.is) ∙ c.in-Scan.is) c.any_weight.ensures

pub returns-in-Unknown : goal.returns-in-Unknown
unfolding refusal8_policy
returns-in-Unknown c = rw (sym (c.of_code-strategy.ensures.is ∙ ap strategy_of c.field.ensures.is) ∙ c.in-Unknown.is)
