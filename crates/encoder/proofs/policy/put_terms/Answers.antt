-- encoder::policy::put_terms meets its contract.
use Rattle.encoder.specs.Encoded.{fields_put}
use Rattle.encoder.proofs.policy.put_terms.Goals as goal

pub returns : goal.returns
unfolding fields_put
returns c =
    rw (
      c.put-3.ensures,
      c.from-2.ensures,
      c.put_double.ensures,
      c.put-2.ensures,
      c.put.ensures,
      c.from.ensures,
    )
