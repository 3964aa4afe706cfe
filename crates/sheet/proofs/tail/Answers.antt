-- sheet::tail meets its contract.
use Rattle.layout.specs.Refusals.{refusal6_empty, refusal16}
use Rattle.layout.specs.Verdict.{first_of, tail_verdict}
use Rattle.sheet.proofs.tail.Goals as goal

pub returns : goal.returns
unfolding tail_verdict first_of refusal6_empty refusal16
returns c = cc
