-- mask::without meets its contract.
use Rattle.mask.specs.MaskLaws.{without_has}
use Rattle.mask.proofs.without.Goals as goal

pub returns : goal.returns
returns c = without_has c.args.a c.args.b c.ranges.a.fits c.ranges.b.fits
