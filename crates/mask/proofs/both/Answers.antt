-- mask::both meets its contract.
use Rattle.mask.specs.MaskLaws.{and_has}
use Rattle.mask.proofs.both.Goals as goal

pub returns : goal.returns
returns c = and_has c.args.a c.args.b c.ranges.a.fits c.ranges.b.fits
