-- passprint::pass_lines meets its contract.
use Rattle.accepted.specs.Accepted.{accepted}
use Rattle.bench.specs.Done.{lent}
use lib.ListN.{replicate}
use Rattle.passprint.specs.LineLaws.{outcome_is, answered, decided_left, swept_left, not_refused}
use mathlib.Core.Path.{refl}
use Rattle.passprint.proofs.pass_lines.Goals as goal

pub sent_lines-requires : goal.sent_lines-requires
sent_lines-requires c =
    let a = c.args in
    let p = c.requires in
    let b = a.s.now in
    let x = lent b (replicate 32 0) (replicate 2048 0) (replicate 32 0) in
    let q = c.pass.ensures in
    let e = outcome_is b a.c p.0 _ _ _ refl refl refl in
    let few = (accepted b a.c p.0).small.cars in
    (p.0, answered a.c x q e c.in-Ok.is, decided_left a.c x q e refl few, swept_left a.c x q e refl few, p.1)

pub returns-in-Err : goal.returns-in-Err
returns-in-Err c =
    let a = c.args in
    let e = outcome_is a.s.now a.c c.requires.0 _ _ _ refl refl refl in
    absurd (not_refused a.c (lent a.s.now (replicate 32 0) (replicate 2048 0) (replicate 32 0)) c.pass.ensures e c.in-Err.is)

pub returns-in-Ok : goal.returns-in-Ok
returns-in-Ok c = c.sent_lines.ensures
