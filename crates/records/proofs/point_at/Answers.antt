-- records::point_at meets its contract.
use Rattle.records.proofs.point_at.Goals as goal

pub returns : goal.returns
returns c = cc
