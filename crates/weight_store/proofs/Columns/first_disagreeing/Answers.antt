-- weight_store::Columns::first_disagreeing meets its contract.
use Prim.Native.Nat.{◌-◌}
use Rattle.laws.specs.First.{first_at, first_end}
use Rattle.laws.specs.Folds.{any, any_no, ended}
use Rattle.weight_store.specs.Keys.{held_entry}
use Rattle.weight_store.specs.Refusals.{disagrees_earlier, first_disagreeing}
use lib.ListN.{length}
use mathlib.Core.Bool.{false}
use mathlib.Core.Path.{refl, sym, ◌∙◌}
use native.Mathlib.Omega.{arith}
use Rattle.weight_store.proofs.Columns.first_disagreeing.Goals as goal

pub loop-j-init : goal.loop-j-init
unfolding any
loop-j-init c = (omega arith, refl)

pub returns-then-disagrees_earlier : goal.returns-then-disagrees_earlier
unfolding first_disagreeing
returns-then-disagrees_earlier c =
    let a = c.args in
    let l = c.loop-j in
    sym (first_at (disagrees_earlier (held_entry a.self.now.keys.now a.self.now.values.now)) (length a.self.now.keys.now) l.j c.loop-j-test.true (sym l.invariant.1)
    (sym c.disagrees_earlier.ensures ∙ c.if-disagrees_earlier.true))

pub loop-j-preserved : goal.loop-j-preserved
loop-j-preserved c =
    let a = c.args in
    let l = c.loop-j in (
      omega arith,
      any_no (disagrees_earlier (held_entry a.self.now.keys.now a.self.now.values.now)) l.j (sym c.disagrees_earlier.ensures ∙ c.if-disagrees_earlier.false) l.invariant.1,
    )

pub returns : goal.returns
unfolding first_disagreeing
returns c =
    let a = c.args in
    let l = c.loop-j in
    let p = disagrees_earlier (held_entry a.self.now.keys.now a.self.now.values.now) in
    sym (first_end p (length a.self.now.keys.now) (sym (ended (any p) l.invariant.0 c.loop-j-test.false l.invariant.1)))
