-- weight_store::Columns::disagrees_earlier meets its contract.
use Prim.Native.Nat.{◌-◌}
use Rattle.laws.specs.Folds.{any, any_at, any_no, ended}
use Rattle.weight_store.specs.Keys.{held_entry}
use Rattle.weight_store.specs.Refusals.{disagrees_earlier}
use mathlib.Core.Bool.{false}
use mathlib.Core.Path.{refl, sym, ◌∙◌}
use native.Mathlib.Omega.{arith}
use Rattle.weight_store.proofs.Columns.disagrees_earlier.Goals as goal
use Rattle.weight_store.proofs.Columns.disagrees_earlier.Invariants.{here}

pub loop-i-init : goal.loop-i-init
unfolding any
loop-i-init c = (omega arith, refl)

pub returns-then-disagrees_at : goal.returns-then-disagrees_at
unfolding disagrees_earlier held_entry
returns-then-disagrees_at c =
    let a = c.args in
    let l = c.loop-i in
    sym (any_at (here a.self.now.keys.now a.self.now.values.now a.j) a.j l.i c.loop-i-test.true
    (sym c.disagrees_at.ensures ∙ c.if-disagrees_at.true))

pub loop-i-preserved : goal.loop-i-preserved
unfolding held_entry
loop-i-preserved c =
    let a = c.args in
    let l = c.loop-i in (
      omega arith,
      any_no (here a.self.now.keys.now a.self.now.values.now a.j) l.i (sym c.disagrees_at.ensures ∙ c.if-disagrees_at.false) l.invariant.1,
    )

pub returns : goal.returns
unfolding disagrees_earlier
returns c =
    let a = c.args in
    let l = c.loop-i in
    ended (any (here a.self.now.keys.now a.self.now.values.now a.j)) l.invariant.0 c.loop-i-test.false l.invariant.1
