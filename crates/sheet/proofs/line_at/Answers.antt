-- sheet::line_at meets its contract.
use Rattle.layout.specs.Records.{sheet_of}
use Rattle.sheet.proofs.line_at.Goals as goal

pub returns : goal.returns
unfolding sheet_of
returns c = rw (c.line_at.ensures, c.lines_from.ensures)
