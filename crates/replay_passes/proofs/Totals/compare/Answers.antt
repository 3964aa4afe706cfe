-- replay_passes::Totals::compare meets its contract.
use Rattle.laws.specs.Bools.{bit-lt}
use Rattle.stored_passes.specs.Passes.{differs_at_le}
use Rattle.replay_passes.specs.Replay.{compared_is}
use lib.Dec.{eqb}
use lib.ListN.{get_or}
use Prim.Native.Nat.{◌-◌}
use native.Mathlib.Omega.{arith}
use Rattle.replay_passes.proofs.Totals.compare.Goals as goal

pub overflow_add-result-2 : goal.overflow_add-result-2
overflow_add-result-2 g c =
    let a = c.args in
    let p = c.requires in
    omega (arith, c.from.ensures, bit-lt (eqb (get_or a.s.now (a.p.next - 1) 0) 1), p.2.built, p.0, p.1.decisions_from, p.1.cells_from, p.1.sweeps_from, p.1.ends)

pub overflow_add-result-4 : goal.overflow_add-result-4
overflow_add-result-4 g c =
    let a = c.args in
    let p = c.requires in
    omega (arith, c.run_case-d.ensures, differs_at_le a.s.now a.at a.p p.1, p.2.differ, p.0, p.1.inside)

pub returns : goal.returns
returns g c =
    let a = c.args in
    let p = c.requires in
    compared_is a.s.now a.at a.p a.self p.0 p.1 p.2 c.from.ensures c.run_case-d.ensures
