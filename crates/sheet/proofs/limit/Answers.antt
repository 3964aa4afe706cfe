-- sheet::limit meets its contract.
use Rattle.layout.specs.Records.{limit_of}
use Rattle.sheet.proofs.limit.Goals as goal

pub returns : goal.returns
unfolding limit_of
returns c = c.field.ensures.is
