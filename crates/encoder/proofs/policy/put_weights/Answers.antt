-- encoder::policy::put_weights meets its contract.
use Rattle.encoder.specs.Encoded.{fields_put}
use Rattle.encoder.proofs.policy.put_weights.Goals as goal

pub returns : goal.returns
unfolding fields_put
returns c =
    rw (
      c.put_double-6.ensures,
      c.put_double-5.ensures,
      c.put_double-4.ensures,
      c.put_double-3.ensures,
      c.put_double-2.ensures,
      c.put_double.ensures,
    )
