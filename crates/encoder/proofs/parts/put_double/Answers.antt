-- encoder::parts::put_double meets its contract.
use Rattle.encoder.proofs.parts.put_double.Goals as goal

pub returns : goal.returns
returns c = cc
