-- encoder::put_closed meets its contract.
use Rattle.encoder.specs.Encoded.{fields_put, record_at}
use Rattle.values.specs.Values.{closed_values}
use Rattle.encoder.proofs.put_closed.Goals as goal

pub returns : goal.returns
unfolding fields_put record_at closed_values
returns c =
    rw (
      c.put.ensures,
      c.put_front.ensures,
    )
