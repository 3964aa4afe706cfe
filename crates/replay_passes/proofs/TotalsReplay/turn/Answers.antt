-- replay_passes::TotalsReplay::turn meets its contract.
use Prim.Native.Nat.{◌+◌}
use Rattle.std.specs.Prelude.{Option, None}
use Rattle.replay_passes.specs.Replay.{Counted, step_by, turned_by}
use Rattle.stored_passes.specs.Cases.{Placed}
use Rattle.stored_passes.specs.declared.Stored.{Stored}
use mathlib.Core.Path.{sym, ◌∙◌, subst}
use native.Mathlib.Omega.{arith}
use Rattle.replay_passes.proofs.TotalsReplay.turn.Goals as goal

pub compare-requires : goal.compare-requires
compare-requires g c =
    let a = c.args in
    let i = subst (λ (r : Option Stored). Placed a.s.now (a.at + 2) r) c.in-Some.is c.case_at.ensures.1 in
    (i.0, i.1, c.requires.1)

pub returns-in-Some : goal.returns-in-Some
unfolding step_by
returns-in-Some g c =
    let a = c.args in
    let e = c.in-Some.is in
    let case = c.case_at.ensures in
    turned_by a.s.now a.at a.self _ c.requires.0 (sym e ∙ case.0) (subst (λ (r : Option Stored). Placed a.s.now (a.at + 2) r) e case.1) c.compare.ensures.0 c.compare.ensures.1

pub returns-in-None : goal.returns-in-None
unfolding step_by
returns-in-None g c =
    let a = c.args in
    let h = c.requires.1 in
    let counted : Counted c.cut.result.next c.cut.result.totals =
    rw c.cut.ensures
    (record { sheets = omega (arith, h.sheets); built = omega (arith, h.built); cells = omega (arith, h.cells); differ = omega (arith, h.differ) }) in
    turned_by a.s.now a.at a.self None c.requires.0 (sym c.in-None.is ∙ c.case_at.ensures.0) tt c.cut.ensures counted
