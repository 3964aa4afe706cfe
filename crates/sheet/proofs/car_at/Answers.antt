-- sheet::car_at meets its contract.
use Rattle.layout.specs.Records.{sheet_of}
use Rattle.sheet.proofs.car_at.Goals as goal

pub returns : goal.returns
unfolding sheet_of
returns c = rw (c.car_at.ensures, c.car_start.ensures)
