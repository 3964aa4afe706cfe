-- sheet::head_refusal meets its contract.
use Rattle.layout.specs.Refusals.{refusal2_head, refusal3}
use Rattle.layout.specs.Verdict.{first_of}
use Rattle.sheet.proofs.head_refusal.Goals as goal

pub returns : goal.returns
unfolding first_of refusal2_head refusal3
returns c = cc
