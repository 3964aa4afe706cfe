-- encoder_car::put_errand meets its contract.
use Rattle.encoder.specs.Encoded.{fields_put}
use Rattle.encoder_car.proofs.put_errand.Goals as goal

pub returns : goal.returns
unfolding fields_put
returns c =
    rw (
      c.put_optional.ensures,
      c.put-4.ensures,
      c.phase_stop.ensures,
      c.put-3.ensures,
      c.from.ensures,
      c.put-2.ensures,
      c.put.ensures,
    )
