-- encoder_car::put_flags meets its contract.
use Rattle.encoder.specs.Encoded.{fields_put}
use Rattle.values.specs.Values.{bit_is}
use Rattle.encoder_car.proofs.put_flags.Goals as goal

pub returns : goal.returns
unfolding fields_put
returns c =
    rw (
      c.put-5.ensures,
      c.from-5.ensures,
      c.put-4.ensures,
      c.from-4.ensures,
      c.put-3.ensures,
      c.from-3.ensures,
      bit_is,
      c.put-2.ensures,
      c.from-2.ensures,
      bit_is,
      c.put.ensures,
      c.from.ensures,
      bit_is,
    )
