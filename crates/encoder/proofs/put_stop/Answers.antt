-- encoder::put_stop meets its contract.
use Rattle.encoder.specs.Encoded.{fields_put, record_at}
use Rattle.values.specs.Values.{stop_values}
use Rattle.encoder.proofs.put_stop.Goals as goal

pub returns : goal.returns
unfolding fields_put record_at stop_values
returns c =
    rw (
      c.put_point.ensures,
      c.put.ensures,
      c.put_front.ensures,
    )
