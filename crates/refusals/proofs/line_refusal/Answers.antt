-- refusals::line_refusal meets its contract.
use Rattle.layout.specs.Refusals.{refusal9_line, refusal10_line}
use Rattle.layout.specs.Verdict.{first_of}
use Rattle.refusals.proofs.line_refusal.Goals as goal

pub returns : goal.returns
unfolding first_of refusal9_line refusal10_line
returns c = cc
