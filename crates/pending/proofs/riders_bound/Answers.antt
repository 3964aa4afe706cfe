-- pending::riders_bound meets its contract.
use Prim.Native.Nat.{ℕ, ◌+◌, ◌*◌, ◌-◌}
use mathlib.Core.Bool.{Bool, ◌&&◌}
use mathlib.Core.Path.{sym, ap, ◌∙◌}
use native.Mathlib.Omega.{arith}
use lib.Dec.{eqb}
use Rattle.assignment.specs.Pending.{idle, idle_bound}
use Rattle.components.specs.declared.Kind.TheVariants.{Aboard}
use Rattle.fields.specs.Named.{contains}
use Rattle.laws.specs.Folds.{any, ended}
use Rattle.layout.specs.Offsets.{record_length}
use Rattle.layout.specs.Records.{aboard_of, from, sheet_of}
use Rattle.manifest.specs.World.{stop_id}
use Rattle.covered.specs.Walk.{walk_start}
use Rattle.pending.specs.Masks.{stop_mask, names_rise, with_bound}
use Rattle.pending.specs.Same.{named_next}
use Rattle.pending.proofs.riders_bound.Goals as goal
use Rattle.pending.proofs.riders_bound.Invariants.{bound}

pub loop-a-init : goal.loop-a-init
loop-a-init c =
    let a = c.args in
    let s = sheet_of a.s.now a.c in
    (omega arith, walk_start (bound s) s.stops)

pub with_bound-m-requires : goal.with_bound-m-requires
unfolding sheet_of
with_bound-m-requires c =
    let p = c.requires in (omega (arith, p.0.cars, p.1), p.0.stops, omega (arith, p.0.stops, p.2), names_rise p.3)

pub loop-a-preserved : goal.loop-a-preserved
unfolding sheet_of
loop-a-preserved c =
    let l = c.loop-a in
    let a = c.args in
    let b = a.s.now in
    let s = sheet_of b a.c in
    let p = c.requires in
    let names = a.names.now in
    let ids = a.idle.now in
    let rider = s.aboard l.a in (
      omega arith,
      named_next s names p.3 (bound s) l.a l.m rider.destination (contains ids s.cars rider.car) l.invariant.1
          (λ j lj. ap (λ (t : Bool). eqb rider.destination (stop_id s j) && t) (sym (p.5.held rider.car (p.4.above_zero l.a c.loop-a-test.true))))
          (c.with_bound-m.ensures ∙ ap (λ (x : ℕ). with_bound names a.c.stops l.m ids a.c.cars (aboard_of (from b (x + record_length 0 Aboard * l.a)))) c.aboards_from-base.ensures),
    )

pub returns : goal.returns
unfolding sheet_of idle_bound
returns c =
    let l = c.loop-a in
    let a = c.args in
    let s = sheet_of a.s.now a.c in
    ended (λ k. stop_mask s (λ j. any (bound s j) k)) l.invariant.0 c.loop-a-test.false l.invariant.1
