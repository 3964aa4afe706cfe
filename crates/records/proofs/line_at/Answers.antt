-- records::line_at meets its contract.
use Rattle.layout.specs.Records.{line_of}
use Rattle.records.proofs.line_at.Goals as goal

pub returns : goal.returns
unfolding line_of
returns c = cc
