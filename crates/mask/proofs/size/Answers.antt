-- mask::size meets its contract.
use Rattle.mask.specs.MaskLaws.{ones_has}
use Rattle.mask.proofs.size.Goals as goal

pub returns : goal.returns
returns c = ones_has c.args.mask c.ranges.mask.fits
