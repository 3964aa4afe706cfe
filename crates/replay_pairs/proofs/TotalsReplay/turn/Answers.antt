-- replay_pairs::TotalsReplay::turn meets its contract.
use Prim.Native.Nat.{◌+◌}
use Rattle.std.specs.Prelude.{Option, Some, None}
use Rattle.stored_passes.specs.Cases.{Placed}
use Rattle.stored_passes.specs.declared.Stored.{Stored}
use Rattle.replay_pairs.specs.Replay.{step_by, turned_first, turned_all}
use mathlib.Core.Path.{sym, ◌∙◌, subst}
use Rattle.replay_pairs.proofs.TotalsReplay.turn.Goals as goal

pub second-requires : goal.second-requires
second-requires g c =
    let a = c.args in
    let p = c.requires in
    let i = subst (λ (r : Option Stored). Placed a.s.now (a.at + 2) r) c.in-Some.is c.case_at.ensures.1 in
    (p.0, i.0, i.1, p.1)

pub returns-in-Some : goal.returns-in-Some
unfolding step_by
returns-in-Some g c =
    let a = c.args in
    turned_all a.s.now a.at a.self (turned_first a.s.now a.at a.self (Some _) (sym c.in-Some.is ∙ c.case_at.ensures.0) c.second.ensures)

pub returns-in-None : goal.returns-in-None
unfolding step_by
returns-in-None g c =
    let a = c.args in
    turned_all a.s.now a.at a.self (turned_first a.s.now a.at a.self None (sym c.in-None.is ∙ c.case_at.ensures.0) c.cut.ensures)
