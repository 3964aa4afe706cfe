-- mask::either meets its contract.
use Rattle.mask.specs.MaskLaws.{or_has}
use Rattle.mask.proofs.either.Goals as goal

pub returns : goal.returns
returns c = or_has c.args.a c.args.b c.ranges.a.fits c.ranges.b.fits
