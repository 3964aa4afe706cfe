-- records::double_at meets its contract.
use Rattle.records.proofs.double_at.Goals as goal

pub returns : goal.returns
returns c = cc
