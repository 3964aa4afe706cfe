-- encoder::parts::put_front meets its contract.
use Rattle.encoder.specs.Encoded.{fields_put}
use Rattle.encoder.proofs.parts.put_front.Goals as goal

pub returns : goal.returns
unfolding fields_put
returns c =
    rw (
      c.put-2.ensures,
      c.body_length.ensures,
      c.put.ensures,
      c.from.ensures,
    )
