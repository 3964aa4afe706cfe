-- ranking::rank_cell meets its contract.
use Rattle.ranking.proofs.rank_cell.Goals as goal

pub returns-in-Some : goal.returns-in-Some
returns-in-Some c =
    let e = c.in-Some.is in
    (simp e c.scale_cost.ensures.0, simp e c.scale_cost.ensures.1)
