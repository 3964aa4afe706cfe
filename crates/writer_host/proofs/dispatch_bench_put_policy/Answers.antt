-- writer_host::dispatch_bench_put_policy meets its contract.
use mathlib.Core.Path.{◌∙◌}
use Rattle.writer_host.specs.Given.{policy_of, policy_known}
use Rattle.writer_host.proofs.dispatch_bench_put_policy.Goals as goal

pub returns : goal.returns
unfolding policy_of policy_known
returns c =
    let put = c.put_record.ensures in (
      c.number.ensures ∙ put.0,
      rw (c.from-4.ensures.is, c.from-3.ensures, c.from-2.ensures.is, c.from.ensures) at put.1,
      put.2,
    )
