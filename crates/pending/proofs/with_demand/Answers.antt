-- pending::with_demand meets its contract.
use Prim.Native.Nat.{ℕ}
use mathlib.Core.Bool.{Bool, cond}
use mathlib.Core.Path.{◌≡◌, refl, ap, ◌∙◌}
use lib.Dec.{ltb}
use Rattle.laws.specs.Bools.{neither_left, neither_right}
use Rattle.layout.specs.Records.{demand_of, from}
use Rattle.manifest.specs.Stops.{stop_index}
use Rattle.covered.specs.Walk.{with_named}
use Rattle.pending.specs.Same.{with_index_named}
use Rattle.pending.proofs.with_demand.Goals as goal

pub returns-then-call-riding : goal.returns-then-call-riding
unfolding demand_of
returns-then-call-riding c =
    let a = c.args in
    let d = demand_of (from a.s.now a.at) in
    let names = a.names.now in
    let at : c.stop_index-j.result ≡ stop_index names a.n d.stop =
    c.stop_index-j.ensures ∙ ap (λ (x : ℕ). stop_index names a.n x) c.field32.ensures in (
      with_index_named names a.n d.stop a.m.calls c.stop_index-j.result c.flag-call.result at c.with_index.ensures
          ∙ ap (λ (b : Bool). cond b (with_named names a.n a.m.calls d.stop) a.m.calls) c.flag-call.ensures,
      with_index_named names a.n d.stop a.m.ridden c.stop_index-j.result (ltb 0 c.field-riding.result) at c.with_index-then-call-riding.ensures
          ∙ ap (λ (x : ℕ). cond (ltb 0 x) (with_named names a.n a.m.ridden d.stop) a.m.ridden) c.field-riding.ensures.is,
    )

pub returns : goal.returns
unfolding demand_of
returns c =
    let call = c.flag-call.result in
    let riding = ltb 0 c.field-riding.result in (
      rw (← c.flag-call.ensures, neither_left call riding c.if-call-riding.false) refl,
      rw (← c.field-riding.ensures.is, neither_right call riding c.if-call-riding.false) refl,
    )
