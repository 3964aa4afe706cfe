-- encoder::put_line meets its contract.
use Rattle.encoder.specs.Encoded.{fields_put, record_at}
use Rattle.values.specs.Values.{line_values}
use Rattle.encoder.proofs.put_line.Goals as goal

pub returns : goal.returns
unfolding fields_put record_at line_values
returns c =
    rw (
      c.put-2.ensures,
      c.put.ensures,
      c.put_front.ensures,
    )
