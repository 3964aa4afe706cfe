-- every_matrix::lines meets its contract.
use Rattle.text.specs.Lines.{counted}
use Rattle.every_matrix.proofs.lines.Goals as goal

pub returns : goal.returns
returns c = let h = counted c.put_lines.ensures in record { counted = h.0; value = h.1 }
