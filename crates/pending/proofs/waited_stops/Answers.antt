-- pending::waited_stops meets its contract.
use Prim.Native.Nat.{ℕ, ◌+◌, ◌*◌, ◌-◌}
use mathlib.Core.Bool.{true, and-true}
use mathlib.Core.Path.{◌≡◌, sym, ap, ◌∙◌}
use native.Mathlib.Omega.{arith}
use Rattle.components.specs.declared.Kind.TheVariants.{Waiting}
use Rattle.laws.specs.Folds.{any, ended}
use Rattle.layout.specs.Offsets.{record_length}
use Rattle.layout.specs.Records.{waiting_of, from, read, sheet_of}
use Rattle.layout.specs.Table.{waiting_stop_field}
use Rattle.manifest.specs.Manifest.{waits_at, someone_waits}
use Rattle.covered.specs.Walk.{with_named, walk_start}
use Rattle.pending.specs.Masks.{stop_mask, names_rise}
use Rattle.pending.specs.Same.{named_next}
use Rattle.pending.proofs.waited_stops.Goals as goal

pub loop-w-init : goal.loop-w-init
loop-w-init c =
    let a = c.args in
    let s = sheet_of a.s.now a.c in
    (omega arith, walk_start (waits_at s) s.stops)

pub with_named-m-requires : goal.with_named-m-requires
unfolding sheet_of
with_named-m-requires c =
    let p = c.requires in (p.0.stops, omega (arith, p.0.stops, p.1), names_rise p.2)

pub loop-w-preserved : goal.loop-w-preserved
unfolding sheet_of waiting_of
loop-w-preserved c =
    let l = c.loop-w in
    let a = c.args in
    let b = a.s.now in
    let s = sheet_of b a.c in
    let id : c.field32-id.result ≡ (s.waiting l.w).stop =
    c.field32-id.ensures ∙ ap (λ (x : ℕ). read (from b (x + record_length 0 Waiting * l.w)) waiting_stop_field) c.waits_from-base.ensures in (
      omega arith,
      named_next s a.names.now c.requires.2 (waits_at s) l.w l.m (s.waiting l.w).stop true l.invariant.1
          (λ j lj. sym (and-true (waits_at s j l.w)))
          (c.with_named-m.ensures ∙ ap (λ (x : ℕ). with_named a.names.now a.c.stops l.m x) id),
    )

pub returns : goal.returns
unfolding sheet_of someone_waits
returns c =
    let l = c.loop-w in
    let a = c.args in
    let s = sheet_of a.s.now a.c in
    ended (λ w. stop_mask s (λ j. any (waits_at s j) w)) l.invariant.0 c.loop-w-test.false l.invariant.1
