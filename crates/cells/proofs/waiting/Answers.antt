-- cells::waiting meets its contract.
use Prim.Native.Nat.{ℕ, ◌+◌, ◌*◌, ◌-◌}
use Rattle.components.specs.declared.Kind.TheVariants.{Waiting}
use Rattle.layout.specs.Offsets.{record_length}
use Rattle.layout.specs.Records.{sheet_of, waiting_of, from, read}
use Rattle.layout.specs.Table.{waiting_stop_field}
use Rattle.manifest.specs.Stops.{stop_index, ascending}
use Rattle.rows.specs.Gathered.{met_start, met_here, met_nowhere, met_all}
use mathlib.Core.Path.{◌≡◌, ap, ◌∙◌}
use native.Mathlib.Omega.{arith}
use Rattle.cells.proofs.waiting.Goals as goal
use Rattle.cells.proofs.waiting.Goals.{else-j-n, then-j-n}

pub clear_waiters-requires : goal.clear_waiters-requires
clear_waiters-requires c = let p = c.requires in (p.0.stops, p.6)

pub loop-w-init : goal.loop-w-init
unfolding sheet_of
loop-w-init c =
    let a = c.args in
    (omega arith, met_start (sheet_of a.s.now a.c) a.ids.now a.xs.now a.calls a.sums.now _ c.clear_waiters.ensures)

pub index-j-requires : goal.index-j-requires
unfolding sheet_of
index-j-requires c =
    let a = c.args in
    let p = c.requires in
    (omega (arith, p.0.stops, p.1), ascending (sheet_of a.s.now a.c) a.ids.now a.xs.now a.c.stops p.3 p.4, omega (arith, p.0.stops, p.2))

pub waiters_at-v-requires : goal.waiters_at-v-requires
waiters_at-v-requires c = (omega (arith, c.requires.0.stops, c.if-j-n.true), c.loop-w.invariant.1.size ∙ c.clear_waiters.ensures.size ∙ c.requires.6)

pub met-requires : goal.met-requires
unfolding sheet_of
met-requires c =
    let a = c.args in
    let p = c.requires in (
      (omega (arith, p.0.stops, p.1), ascending (sheet_of a.s.now a.c) a.ids.now a.xs.now a.c.stops p.3 p.4, omega (arith, p.0.stops, p.2)),
      c.if-j-n.true,
    )

pub put_waiters-requires : goal.put_waiters-requires
put_waiters-requires c = (omega (arith, c.requires.0.stops, c.if-j-n.true), c.loop-w.invariant.1.size ∙ c.clear_waiters.ensures.size ∙ c.requires.6)

pub with-someone-requires : goal.with-someone-requires
with-someone-requires c = omega (arith, c.requires.0.stops, c.if-j-n.true)

pub loop-w-smaller : goal.loop-w-smaller
loop-w-smaller c = omega (arith, c.loop-w-test.true)

pub shape_of-sums : goal.shape_of-sums
shape_of-sums c = c.loop-w.invariant.1.size ∙ c.clear_waiters.ensures.size

pub loop-w-preserved : goal.loop-w-preserved
unfolding sheet_of waiting_of
loop-w-preserved c =
    let a = c.args in
    let p = c.requires in
    let l = c.loop-w in
    let t = c.loop-w-test.true in
    let bytes = a.s.now in
    let s = sheet_of bytes a.c in
    let first = c.waits_from-first in
    let index = c.index-j in
    let up = ascending s a.ids.now a.xs.now a.c.stops p.3 p.4 in
    let name : c.field32.result ≡ read (from bytes (first.result + record_length 0 Waiting * l.w)) waiting_stop_field = c.field32.ensures in
    let stop : c.field32.result ≡ (s.waiting l.w).stop =
    name ∙ ap (λ (x : ℕ). read (from bytes (x + record_length 0 Waiting * l.w)) waiting_stop_field) first.ensures in
    let found : index.result ≡ stop_index a.ids.now a.c.stops (s.waiting l.w).stop =
    index.ensures ∙ ap (stop_index a.ids.now a.c.stops) stop in (
      omega (arith, t),
      elim c.if-j-n.branch [
        | then-j-n q ↦
            rw (q.sums-is, q.someone-is, q.put_waiters.ensures)
            (met_here s a.ids.now a.xs.now a.calls up p.0.stops l.w l.someone t l.invariant.1 index.result (c.clear_waiters.ensures.size ∙ p.6) found q.if-j-n.true
            (rw q.waiters_at-v.ensures at (rw first.ensures at q.met.ensures)) q.with-someone.ensures)
        | else-j-n q ↦
            rw (q.sums-is, q.someone-is)
            (met_nowhere s a.ids.now a.xs.now a.calls up p.0.stops l.w l.someone t l.invariant.1 index.result found q.if-j-n.false)
      ],
    )

pub returns : goal.returns
unfolding sheet_of
returns c =
    let a = c.args in
    let p = c.requires in
    let l = c.loop-w in
    let s = sheet_of a.s.now a.c in
    let e : l.w ≡ a.c.waits = omega (arith, l.invariant.0, c.loop-w-test.false) in
    met_all s a.ids.now a.xs.now a.calls p.3 p.0.stops p.5 l.someone c.clear_waiters.ensures (rw e at l.invariant.1)
