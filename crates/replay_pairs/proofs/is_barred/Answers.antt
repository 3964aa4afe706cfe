-- replay_pairs::is_barred meets its contract.
use Rattle.std.specs.Prelude.{Ok}
use Rattle.layout.specs.Refused.{refused}
use Rattle.accepted.specs.Accepted.{accepted}
use Rattle.outcome.specs.Fits.{most_bytes}
use Rattle.replay_pairs.specs.Added.{added_by, barred_no, barred_same, barred_is}
use mathlib.Core.Path.{refl, sym, ◌∙◌}
use Rattle.replay_pairs.proofs.is_barred.Goals as goal

pub returns-then-first-second : goal.returns-then-first-second
returns-then-first-second c = let a = c.args in barred_no a.first.now a.second.now c.if-first-second.true

pub returns-then-agree : goal.returns-then-agree
returns-then-agree c = let a = c.args in barred_same a.first.now a.second.now (sym c.if-agree.true ∙ c.agree.ensures)

pub added-requires : goal.added-requires
added-requires c =
    let a = c.args in
    let e = sym c.read.ensures ∙ c.in-Ok.is in
    ((accepted a.first.now _ e).small, (most_bytes a.first.now _ e).0)

pub returns-in-Ok : goal.returns-in-Ok
unfolding added_by
returns-in-Ok c =
    let a = c.args in
    barred_is a.first.now a.second.now {r = Ok _} c.if-first-second.false (sym c.if-agree.false ∙ c.agree.ensures)
    (sym c.in-Ok.is ∙ c.read.ensures) c.added.ensures

pub returns-in-Err : goal.returns-in-Err
unfolding added_by
returns-in-Err c =
    let a = c.args in
    barred_is a.first.now a.second.now {r = refused _ _} c.if-first-second.false (sym c.if-agree.false ∙ c.agree.ensures)
    (sym c.in-Err.is ∙ c.read.ensures) refl
