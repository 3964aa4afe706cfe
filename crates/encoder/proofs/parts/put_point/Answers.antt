-- encoder::parts::put_point meets its contract.
use Rattle.encoder.specs.Encoded.{fields_put}
use Rattle.encoder.proofs.parts.put_point.Goals as goal

pub returns : goal.returns
unfolding fields_put
returns c =
    rw (
      c.put.ensures,
      c.bits_of.ensures,
      c.put_double.ensures,
    )
