-- encoder::put_waiting meets its contract.
use Rattle.encoder.specs.Encoded.{fields_put, record_at}
use Rattle.values.specs.Values.{waiting_values}
use Rattle.encoder.proofs.put_waiting.Goals as goal

pub returns : goal.returns
unfolding fields_put record_at waiting_values
returns c =
    rw (
      c.put-2.ensures,
      c.put_double.ensures,
      c.put_optional-2.ensures,
      c.put_optional.ensures,
      c.put.ensures,
      c.put_front.ensures,
    )
