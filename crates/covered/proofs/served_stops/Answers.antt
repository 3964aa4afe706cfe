-- covered::served_stops meets its contract.
use Prim.Native.Nat.{ℕ, ◌-◌}
use Rattle.assignment.specs.Pending.{serves}
use Rattle.covered.specs.Columns.{served_target}
use Rattle.covered.specs.Served.{target_next, no_target, asked_served}
use Rattle.covered.specs.Walk.{named_by, walk_start}
use Rattle.laws.specs.Folds.{ended}
use Rattle.layout.specs.Records.{sheet_of, from, car_of}
use mathlib.Core.Path.{◌≡◌, ap, ◌∙◌}
use native.Mathlib.Omega.{arith}
use Rattle.covered.proofs.served_stops.Goals as goal
use Rattle.covered.proofs.served_stops.Goals.{else-target-ne0, then-target-ne0}

pub loop-i-init : goal.loop-i-init
loop-i-init c = let a = c.args in (omega arith, walk_start (serves (sheet_of a.s.now a.c)) a.c.stops)

pub with_named-m-requires : goal.with_named-m-requires
unfolding sheet_of
with_named-m-requires c =
    let p = c.requires in (p.0.stops, omega (arith, p.0.stops, p.1), p.2.rising)

pub loop-i-preserved : goal.loop-i-preserved
unfolding sheet_of
loop-i-preserved c =
    let l = c.loop-i in
    let a = c.args in
    let s = sheet_of a.s.now a.c in
    let h = c.requires.2 in
    let at : c.target_at-target.result ≡ served_target (s.car l.i) =
    c.target_at-target.ensures a.c.across ∙ ap (λ (x : ℕ). served_target (car_of a.c.across (from a.s.now x))) c.car_start.ensures in (
      omega arith,
      (elim c.if-target-ne0.branch [
        | then-target-ne0 w ↦ rw w.m-is (target_next s a.asked a.names.now h l.i l.m c.target_at-target.result at l.invariant.1 w.with_named-m.ensures)
        | else-target-ne0 w ↦ rw w.m-is (no_target s a.asked a.names.now h l.i l.m c.target_at-target.result at l.invariant.1 w.if-target-ne0.false)
      ]),
    )

pub returns : goal.returns
unfolding sheet_of
returns c =
    let l = c.loop-i in
    let a = c.args in
    let s = sheet_of a.s.now a.c in
    c.both.ensures
    ∙ asked_served s a.asked a.names.now c.requires.2 l.m
    (ended (λ i. named_by (serves s) a.c.stops i) l.invariant.0 c.loop-i-test.false l.invariant.1)
