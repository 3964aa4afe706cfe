-- fields::contains meets its contract.
use Prim.Native.Nat.{ℕ, ◌<◌}
use Rattle.fields.specs.Named.{contains}
use Rattle.laws.specs.Folds.{any, any_step, ended}
use lib.Dec.{eqb}
use lib.ListN.{get_or}
use mathlib.Core.Bool.{Bool, ◌||◌}
use mathlib.Core.List.{List}
use mathlib.Core.Path.{refl, ap}
use Rattle.std.proofs.lemmas.List.{get_or-take, length-take-le}
use native.Mathlib.Omega.{arith}
use Rattle.fields.proofs.contains.Goals as goal

abbrev here : List ℕ → ℕ → ℕ → Bool
here ids id i = eqb (get_or ids i 0) id

pub loop-x-init : goal.loop-x-init
unfolding contains any
loop-x-init c = (omega arith, refl)

pub loop-x-preserved : goal.loop-x-preserved
unfolding contains
loop-x-preserved c =
    let a = c.args in
    let l = c.loop-x in
    let size = length-take-le a.n a.ids.now c.requires in
    let inside : l.x-index < a.n = omega arith in
    (omega arith, any_step (here a.ids.now a.id) l.x-index l.invariant.1 (ap (λ (x : ℕ). l.found || eqb x a.id) (get_or-take a.n a.ids.now l.x-index 0 inside)))

pub returns : goal.returns
returns c =
    let a = c.args in
    let l = c.loop-x in
    let size = length-take-le a.n a.ids.now c.requires in
    ended (λ k. contains a.ids.now k a.id) l.invariant.0 (omega arith) l.invariant.1
