-- records::policy_at meets its contract.
use Rattle.components.specs.Codes.{strategy_of, traffic_of}
use Rattle.layout.specs.Records.{policy_of}
use mathlib.Core.Path.{ap, ◌∙◌}
use Rattle.records.proofs.policy_at.Goals as goal

pub returns : goal.returns
unfolding policy_of
returns c =
    let d1 = c in
    let d2 = c in
    λ i. record {
      strategy = (d2.of_code.ensures.is ∙ ap strategy_of d2.field.ensures.is) i;
      rate = d2.double_at.ensures i;
      traffic = (d1.of_code-2.ensures.is ∙ ap traffic_of d1.field-2.ensures.is) i;
      w0 = d1.double_at-2.ensures i;
      w1 = d1.double_at-3.ensures i;
      w2 = c.double_at-4.ensures i;
      w3 = c.double_at-5.ensures i;
      w4 = c.double_at-6.ensures i;
      w5 = c.double_at-7.ensures i;
    }
