-- pending::demand_masks meets its contract.
use Prim.Native.Nat.{ℕ, ◌+◌, ◌*◌, ◌-◌}
use mathlib.Core.Path.{refl, ap, ◌∙◌}
use native.Mathlib.Omega.{arith}
use lib.Dec.{ltb}
use Rattle.components.specs.declared.Kind.TheVariants.{Demand}
use Rattle.laws.specs.Folds.{any, ended}
use Rattle.layout.specs.Offsets.{record_length}
use Rattle.layout.specs.Records.{demand_of, from, sheet_of}
use Rattle.manifest.specs.Manifest.{riderless_call, ridden_to}
use Rattle.covered.specs.Walk.{walk_start}
use Rattle.pending.specs.Masks.{stop_mask, names_rise, with_call, with_riding}
use Rattle.pending.specs.Same.{named_next}
use Rattle.pending.proofs.demand_masks.Goals as goal
use Rattle.pending.proofs.demand_masks.Invariants.{calls, rides}

pub loop-d-init : goal.loop-d-init
loop-d-init c =
    let a = c.args in
    let s = sheet_of a.s.now a.c in
    (omega arith, (walk_start (calls s) s.stops, walk_start (rides s) s.stops))

pub with_demand-m-requires : goal.with_demand-m-requires
unfolding sheet_of
with_demand-m-requires c =
    let p = c.requires in (p.0.stops, omega (arith, p.0.stops, p.2), names_rise p.3)

pub loop-d-preserved : goal.loop-d-preserved
unfolding sheet_of
loop-d-preserved c =
    let l = c.loop-d in
    let a = c.args in
    let s = sheet_of a.s.now a.c in
    let names = a.names.now in
    let h = c.requires.3 in
    let at = c.demands_from-base.ensures in
    let d = s.demand l.d in (
      omega arith,
      (
        named_next s names h (calls s) l.d l.m.calls d.stop d.call l.invariant.1.0 (λ j lj. refl)
            (c.with_demand-m.ensures.0 ∙ ap (λ (x : ℕ). with_call names a.c.stops l.m.calls (demand_of (from a.s.now (x + record_length 0 Demand * l.d)))) at),
        named_next s names h (rides s) l.d l.m.ridden d.stop (ltb 0 d.riding) l.invariant.1.1 (λ j lj. refl)
            (c.with_demand-m.ensures.1 ∙ ap (λ (x : ℕ). with_riding names a.c.stops l.m.ridden (demand_of (from a.s.now (x + record_length 0 Demand * l.d)))) at),
      ),
    )

pub returns : goal.returns
unfolding sheet_of riderless_call ridden_to
returns c =
    let l = c.loop-d in
    let a = c.args in
    let s = sheet_of a.s.now a.c in (
      ended (λ d. stop_mask s (λ j. any (calls s j) d)) l.invariant.0 c.loop-d-test.false l.invariant.1.0,
      ended (λ d. stop_mask s (λ j. any (rides s j) d)) l.invariant.0 c.loop-d-test.false l.invariant.1.1,
    )
