-- ranking::rank meets its contract.
use Prim.Native.Nat.{ℕ}
use Rattle.etd.specs.Pairs.{rank_by as etdBy}
use Rattle.ranking.specs.Ranking.{rank_by}
use Rattle.ranking.specs.RankingLaws.{by_etd, by_rsr, by_scan}
use mathlib.Core.Path.{ap, ◌∙◌}
use Rattle.ranking.proofs.rank.Goals as goal

pub returns-in-Etd : goal.returns-in-Etd
unfolding rank_by
returns-in-Etd c =
    let s = c in
    let a = s.args in
    let row = a.row.now in
    let is = c.in-Etd.is in
    c.rank.ensures
    ∙ ap (λ (h : ℕ). etdBy row.policy row.car row.goal row.riders a.dests.now.along.now a.dests.now.across.now a.waiters h a.stops.now.points.now a.j)
    (s.requires.2 is)
    ∙ by_etd row.policy.strategy _ _ _ _ is

pub returns-in-Rsr : goal.returns-in-Rsr
unfolding rank_by
returns-in-Rsr c =
    let row = c.args.row.now in
    c.rank-in-Rsr.ensures ∙ by_rsr row.policy.strategy _ _ _ _ c.in-Rsr.is

pub returns-in-Scan : goal.returns-in-Scan
unfolding rank_by
returns-in-Scan c =
    let row = c.args.row.now in
    c.scan_rank.ensures ∙ by_scan row.policy.strategy _ _ _ _ c.in-Scan.is

pub returns-in-Unknown : goal.returns-in-Unknown
unfolding rank_by
returns-in-Unknown c = rw c.in-Unknown.is
