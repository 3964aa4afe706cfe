-- encoder_car::put_threshold meets its contract.
use Rattle.encoder.specs.Encoded.{fields_put}
use Rattle.encoder_car.proofs.put_threshold.Goals as goal

pub returns : goal.returns
unfolding fields_put
returns c =
    rw (
      c.put-2.ensures,
      c.threshold_bits.ensures,
      c.put.ensures,
      c.threshold_present.ensures,
    )
