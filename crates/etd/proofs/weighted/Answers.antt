-- etd::weighted meets its contract.
use Rattle.etd.specs.Pairs.{weighted_by}
use Rattle.etd.proofs.weighted.Goals as goal

pub returns : goal.returns
returns c =
    let a = c.args in
    weighted_by a.wait a.delay a.door a.travel a.riders a.doors a.bonus c.fma-a.ensures c.fma-b.ensures c.fma.ensures c.max_zero.ensures
