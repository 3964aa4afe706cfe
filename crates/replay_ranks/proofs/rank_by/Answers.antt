-- replay_ranks::rank_by meets its contract.
use Rattle.accepted.specs.Accepted.{accepted}
use Rattle.cells.specs.Ids.{rising_of}
use Rattle.etd.specs.Pairs.{halts_at}
use Rattle.layout.specs.Records.{sheet_of}
use Rattle.pending.specs.Masks.{calls_are}
use Rattle.replay_ranks.specs.RankLaws.{ranked}
use mathlib.Core.Path.{refl, ◌∙◌}
use native.Mathlib.Omega.{arith}
use Rattle.replay_ranks.proofs.rank_by.Goals as goal

pub waiting-someone-requires : goal.waiting-someone-requires
unfolding sheet_of
waiting-someone-requires c =
    let a = c.args in
    let p = c.requires in
    ((accepted a.s.now a.c p.s_value.0).small, p.s_value.3, p.s_value.4, p.seen_stops.stops_held, rising_of a.s.now a.c p.s_value.0, calls_are (sheet_of a.s.now a.c) p.seen_stops.masks_are, refl)

pub waiters_at-v-requires : goal.waiters_at-v-requires
waiters_at-v-requires c =
    let a = c.args in
    let p = c.requires in
    (omega (arith, (accepted a.s.now a.c p.s_value.0).small.stops, p.s_value.2), c.waiting-someone.ensures.size)

pub offset_bounds-xs-j : goal.offset_bounds-xs-j
offset_bounds-xs-j c =
    let a = c.args in
    let p = c.requires in
    omega (arith, (accepted a.s.now a.c p.s_value.0).small.stops, p.s_value.2)

pub bounds-xs-j : goal.bounds-xs-j
bounds-xs-j c =
    let a = c.args in
    let p = c.requires in
    omega (arith, (accepted a.s.now a.c p.s_value.0).small.stops, p.s_value.2, p.s_value.4)

pub intervening_stops-halts-requires : goal.intervening_stops-halts-requires
intervening_stops-halts-requires c =
    let a = c.args in
    let p = c.requires in
    let small = (accepted a.s.now a.c p.s_value.0).small.stops in
    (small, omega (arith, small, p.s_value.4))

pub rank-requires : goal.rank-requires
unfolding halts_at
rank-requires c =
    let a = c.args in
    let p = c.requires in
    let small = (accepted a.s.now a.c p.s_value.0).small.stops in
    let row = c.row_of-row.ensures in
    (((row.1, row.2), small, omega (arith, small, p.s_value.4)), p.s_value.2, λ is. c.intervening_stops-halts.ensures)

pub returns : goal.returns
unfolding sheet_of
returns c =
    let a = c.args in
    let p = c.requires in
    let row = c.row_of-row in
    let waiters = c.waiting-someone in
    c.rank.ensures
    ∙ ranked a.s.now a.c p.s_value.0 a.ids.now a.xs.now p.seen_stops.stops_held a.i a.j 65535 p.s_value.1 p.s_value.2 row.result
    row.ensures.0 a.masks.calls waiters.result _ _ waiters.ensures c.waiters_at-v.ensures
