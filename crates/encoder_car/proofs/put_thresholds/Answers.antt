-- encoder_car::put_thresholds meets its contract.
use Rattle.encoder.specs.Encoded.{fields_put}
use Rattle.encoder_car.proofs.put_thresholds.Goals as goal

pub returns : goal.returns
unfolding fields_put
returns c =
    rw (
      c.put_threshold-2.ensures,
      c.put_threshold.ensures,
    )
