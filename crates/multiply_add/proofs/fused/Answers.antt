-- multiply_add::fused meets its contract.
use denote.Floats.{passes}
use Rattle.multiply_add.proofs.SumLaws.{no_nan, fused_is}
use Rattle.multiply_add.proofs.fused.Goals as goal

pub float_to_bits-x : goal.float_to_bits-x
float_to_bits-x c = no_nan c.args.a c.requires.0

pub float_to_bits-y : goal.float_to_bits-y
float_to_bits-y c = no_nan c.args.b c.requires.1

pub float_to_bits-z : goal.float_to_bits-z
float_to_bits-z c = no_nan c.args.c c.requires.2

pub returns : goal.returns
returns c =
    let s = c in
    fused_is s.args.a s.args.b s.args.c (passes _ s.well_formed.0.1) (passes _ s.well_formed.1.0.1) (passes _ s.well_formed.1.1.0.1)
    s.requires.0 s.requires.1 s.requires.2 _ _ _ _ _ c.terms-lined.ensures _ c.product_sign-s.ensures _
    c.rounded_sum.ensures
