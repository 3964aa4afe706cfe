-- replay_pairs::Totals::second meets its contract.
use Prim.Native.Nat.{◌+◌}
use Rattle.std.specs.Prelude.{Option, Some, None}
use Rattle.stored_passes.specs.Cases.{Placed}
use Rattle.stored_passes.specs.declared.Stored.{Stored}
use Rattle.replay_pairs.specs.Replay.{second_by, turned_second}
use mathlib.Core.Path.{sym, ◌∙◌, subst}
use Rattle.replay_pairs.proofs.Totals.second.Goals as goal

pub compare-requires : goal.compare-requires
compare-requires g c =
    let a = c.args in
    let p = c.requires in
    let i = subst (λ (r : Option Stored). Placed a.s.now (a.p.next + 2) r) c.in-Some.is c.case_at.ensures.1 in
    (p.1, p.2, i.0, i.1, p.3)

pub returns-in-Some : goal.returns-in-Some
unfolding second_by
returns-in-Some g c =
    let a = c.args in
    turned_second a.s.now a.at a.self (Some _) a.p (sym c.in-Some.is ∙ c.case_at.ensures.0) c.compare.ensures

pub returns-in-None : goal.returns-in-None
unfolding second_by
returns-in-None g c =
    let a = c.args in
    turned_second a.s.now a.at a.self None a.p (sym c.in-None.is ∙ c.case_at.ensures.0) c.cut.ensures
