-- marks::mark meets its contract.
use Rattle.marks.specs.Marks.{by_quotient}
use Rattle.marks.proofs.mark.Goals as goal

pub returns : goal.returns
returns c = by_quotient c.args.cell c.requires
