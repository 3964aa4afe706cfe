-- encoder::parts::put_optional meets its contract.
use Rattle.values.specs.Values.{bit_is}
use Rattle.encoder.specs.Encoded.{fields_put}
use Rattle.encoder.proofs.parts.put_optional.Goals as goal

pub returns : goal.returns
unfolding fields_put
returns c =
    rw (
      c.put-2.ensures,
      c.put.ensures,
      c.from.ensures,
      bit_is,
    )
