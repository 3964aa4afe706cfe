-- pending::line_stops meets its contract.
use Prim.Native.Nat.{ℕ, ◌-◌}
use Rattle.components.specs.declared.Line.{Line}
use Rattle.laws.specs.Folds.{ended}
use Rattle.layout.specs.Records.{sheet_of}
use Rattle.mask.specs.Mask.{has, built}
use Rattle.pending.specs.Masks.{line_stop}
use Rattle.pending.specs.Same.{line_next, cond_has, nothing}
use lib.Dec.{eqb}
use mathlib.Core.Bool.{cond, ◌||◌}
use mathlib.Core.Path.{ap, ◌∙◌}
use native.Mathlib.Omega.{arith}
use Rattle.pending.proofs.line_stops.Goals as goal

pub loop-l-init : goal.loop-l-init
loop-l-init c = let a = c.args in (omega arith, nothing (sheet_of a.s.now a.c) a.every a.id)

pub loop-l-preserved : goal.loop-l-preserved
loop-l-preserved c =
    let a = c.args in
    let l = c.loop-l in
    let line = c.line_at in
    let served = c.served_by in (
      omega arith,
      c.either-m.ensures
          ∙ line_next (sheet_of a.s.now a.c) a.every a.id l.l l.m served.result l.invariant.1
          (λ j lj.
          ap (λ (x : ℕ). has x j) (served.ensures ∙ ap (λ (y : Line). cond (a.every || eqb y.id a.id) y.serves 0) line.ensures)
          ∙ cond_has (a.every || eqb ((sheet_of a.s.now a.c).line l.l).id a.id) ((sheet_of a.s.now a.c).line l.l).serves j lj),
    )

pub returns : goal.returns
returns c =
    let a = c.args in
    ended (λ k. built (line_stop (sheet_of a.s.now a.c) a.every a.id k) 64) c.loop-l.invariant.0 c.loop-l-test.false c.loop-l.invariant.1
