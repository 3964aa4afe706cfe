-- replay_ranks::pair_at meets its contract.
use native.Mathlib.Nat.{div-le_self, mod-le}
use native.Mathlib.Omega.{arith}
use Rattle.replay_ranks.specs.Ranks.{pair_at}
use Rattle.replay_ranks.specs.RankLaws.{some_stop}
use Rattle.replay_ranks.proofs.pair_at.Goals as goal

pub nonzero_div-k : goal.nonzero_div-k
nonzero_div-k c =
    let a = c.args in
    let p = c.requires in
    some_stop a.k a.case.cars a.case.stops (omega (arith, p.0.pairs, p.1))

pub overflow_add-first-2 : goal.overflow_add-first-2
overflow_add-first-2 c =
    let a = c.args in
    let p = c.requires in
    omega (arith, div-le_self a.k a.case.stops, p.0.next, p.0.below, p.1)

pub number-car-requires : goal.number-car-requires
number-car-requires c =
    let a = c.args in
    let p = c.requires in
    (omega (arith, div-le_self a.k a.case.stops, p.0.next, p.0.below, p.1), omega arith)

pub nonzero_rem-k : goal.nonzero_rem-k
nonzero_rem-k c =
    let a = c.args in
    let p = c.requires in
    some_stop a.k a.case.cars a.case.stops (omega (arith, p.0.pairs, p.1))

pub overflow_add-first-4 : goal.overflow_add-first-4
overflow_add-first-4 c =
    let a = c.args in
    let p = c.requires in
    omega (arith, mod-le a.k a.case.stops, p.0.next, p.0.below, p.1)

pub number-stop-requires : goal.number-stop-requires
number-stop-requires c =
    let a = c.args in
    let p = c.requires in
    (omega (arith, mod-le a.k a.case.stops, p.0.next, p.0.below, p.1), omega arith)

pub returns : goal.returns
unfolding pair_at
returns c = cc
