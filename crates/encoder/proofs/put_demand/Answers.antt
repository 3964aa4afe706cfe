-- encoder::put_demand meets its contract.
use Rattle.encoder.specs.Encoded.{fields_put, record_at}
use Rattle.values.specs.Values.{demand_values, bit_is}
use Rattle.encoder.proofs.put_demand.Goals as goal

pub returns : goal.returns
unfolding fields_put record_at demand_values
returns c =
    rw (
      c.put-3.ensures,
      c.from.ensures,
      bit_is,
      c.put-2.ensures,
      c.put.ensures,
      c.put_front.ensures,
    )
