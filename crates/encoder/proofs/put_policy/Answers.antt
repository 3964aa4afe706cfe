-- encoder::put_policy meets its contract.
use Rattle.encoder.specs.Encoded.{fields_put, record_at}
use Rattle.values.specs.Values.{policy_values}
use Rattle.encoder.proofs.put_policy.Goals as goal

pub returns : goal.returns
unfolding fields_put record_at policy_values
returns c = rw (c.put_weights.ensures, c.put_terms.ensures, c.put_front.ensures)
