-- replay_pairs::Change::of meets its contract.
use Rattle.replay_pairs.proofs.Change.of.Goals as goal

pub returns : goal.returns
returns c =
    let e = c.is_pair.ensures in
    let f = c.is_barred.ensures in
    let g = c.is_limited.ensures in
    λ i. record { raised = e i; barred = f i; limited = g i }
