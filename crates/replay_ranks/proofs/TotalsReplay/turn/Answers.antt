-- The turn of ranks meets its contract.
use Rattle.replay_ranks.specs.TurnLaws.{placed, turn_cut, turn_whole}
use native.Mathlib.Omega.{arith}
use Rattle.replay_ranks.proofs.TotalsReplay.turn.Goals as goal

pub returns-then-s-case : goal.returns-then-s-case
returns-then-s-case g c =
    let a = c.args in
    let p = c.requires in
    turn_cut a.s.now a.at a.self c.case_at-case.ensures c.if-s-case.true p.0 p.1 c.cut.ensures

pub slice_bounds-compare-count : goal.slice_bounds-compare-count
slice_bounds-compare-count g c = let a = c.args in (placed a.s.now a.at c.case_at-case.ensures).sheet

pub slice_bounds-compare-start : goal.slice_bounds-compare-start
slice_bounds-compare-start g c = let a = c.args in (placed a.s.now a.at c.case_at-case.ensures).sheet

pub slice_bounds-compare-end : goal.slice_bounds-compare-end
slice_bounds-compare-end g c = let a = c.args in omega (arith, (placed a.s.now a.at c.case_at-case.ensures).end, c.if-s-case.false)

pub compare-requires : goal.compare-requires
compare-requires g c =
    let a = c.args in
    let p = c.requires in
    let at = placed a.s.now a.at c.case_at-case.ensures in
    (p.1.1, at.inside (omega (arith, p.1.0, c.if-s-case.false)), at.long)

pub returns : goal.returns
returns g c =
    let a = c.args in
    let p = c.requires in
    turn_whole a.s.now a.at a.self c.case_at-case.ensures c.if-s-case.false p.1 c.compare.ensures
