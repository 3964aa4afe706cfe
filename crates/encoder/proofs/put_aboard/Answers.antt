-- encoder::put_aboard meets its contract.
use Rattle.encoder.specs.Encoded.{fields_put, record_at}
use Rattle.values.specs.Values.{aboard_values}
use Rattle.encoder.proofs.put_aboard.Goals as goal

pub returns : goal.returns
unfolding fields_put record_at aboard_values
returns c =
    rw (
      c.put_optional.ensures,
      c.put.ensures,
      c.put_front.ensures,
    )
