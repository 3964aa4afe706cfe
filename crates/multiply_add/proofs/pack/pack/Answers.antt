-- multiply_add::pack::pack meets its contract.
use Rattle.std.proofs.Common.{ap, ◌∙◌}
use lib.Ieee.{binary64, of_bits}
use Rattle.multiply_add.proofs.PackLaws.{not_nan, packed_small, packed_is, packed_bits}
use Rattle.multiply_add.proofs.pack.pack.Goals as goal

pub float_from_bits-result : goal.float_from_bits-result
float_from_bits-result c = not_nan _ (packed_small c.args.neg _ _ _ c.from-sign.ensures c.min-size.ensures)

pub returns : goal.returns
returns c =
    let p = c.requires in
    ap (of_bits binary64) (packed_bits c.args.neg _ c.from-sign.ensures _)
    ∙ packed_is c.args.neg c.args.q c.args.k p _ c.min-size.ensures
