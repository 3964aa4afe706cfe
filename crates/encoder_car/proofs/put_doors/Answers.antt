-- encoder_car::put_doors meets its contract.
use Rattle.encoder.specs.Encoded.{fields_put}
use Rattle.encoder_car.proofs.put_doors.Goals as goal

pub returns : goal.returns
unfolding fields_put
returns c =
    rw (
      c.put-4.ensures,
      c.put-3.ensures,
      c.put-2.ensures,
      c.put.ensures,
    )
