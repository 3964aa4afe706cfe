-- replay_pairs::Totals::compare meets its contract.
use Rattle.replay_pairs.specs.Replay.{sizes_lt, differ_lt, has_room, compared_is, tallied_as, change_of}
use native.Mathlib.Omega.{arith}
use mathlib.Core.Path.{◌∙◌, ap₂}
use Prim.Native.Nat.{◌+◌}
use Rattle.replay_pairs.proofs.Totals.compare.Goals as goal

pub overflow_add-cells : goal.overflow_add-cells
overflow_add-cells g c =
    let a = c.args in
    let p = c.requires in
    omega (arith, sizes_lt a.s.now a.at a.p a.q p.0 p.1 p.2 p.3)

pub overflow_add-differ : goal.overflow_add-differ
overflow_add-differ g c =
    let a = c.args in
    let p = c.requires in
    let x = c.run_pair-x.ensures in
    omega (arith, differ_lt a.s.now a.at a.p a.q p.0 p.1 p.2 p.3, x.first, x.second)

pub tally-requires : goal.tally-requires
tally-requires g c =
    let a = c.args in
    let p = c.requires in
    let x = c.run_pair-x.ensures in
    rw (x.first, x.second) (has_room a.s.now a.at a.p a.q p.0 p.1 p.2 p.3 a.self p.4 (omega arith))

pub returns : goal.returns
returns g c =
    let a = c.args in
    let p = c.requires in
    let x = c.run_pair-x.ensures in
    let k = c.of-change.ensures ∙ ap₂ change_of c.sheet-first.ensures c.sheet-second.ensures in
    compared_is a.s.now a.at a.p a.q p.0 p.1 p.2 p.3 a.self p.4
    (c.tally.ensures ∙ tallied_as a.self (a.p.size + a.q.size) k x.lower x.first x.second)
