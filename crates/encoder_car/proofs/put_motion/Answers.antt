-- encoder_car::put_motion meets its contract.
use Rattle.encoder.specs.Encoded.{fields_put}
use Rattle.encoder_car.proofs.put_motion.Goals as goal

pub returns : goal.returns
unfolding fields_put
returns c =
    rw (
      c.put_double-3.ensures,
      c.put_double-2.ensures,
      c.put_double.ensures,
      c.put_point.ensures,
    )
