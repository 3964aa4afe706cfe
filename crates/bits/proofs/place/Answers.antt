-- bits::place meets its contract.
use Rattle.bits.specs.Eights.{shift_and_mask}
use Rattle.bits.proofs.place.Goals as goal

pub returns : goal.returns
returns c = shift_and_mask c.args.at
