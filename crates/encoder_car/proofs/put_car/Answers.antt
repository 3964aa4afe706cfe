-- encoder_car::put_car meets its contract.
use Rattle.encoder.specs.Encoded.{fields_put, record_at}
use Rattle.values.specs.Values.{car_values}
use Rattle.encoder_car.proofs.put_car.Goals as goal

pub returns : goal.returns
unfolding fields_put record_at car_values
returns c =
    rw (c.put_doors.ensures, c.put_thresholds.ensures, c.put_motion.ensures, c.put_flags.ensures, c.put_errand.ensures, c.put_front.ensures)
