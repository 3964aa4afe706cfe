-- shown::taken meets its contract.
use Prim.Native.Nat.{ℕ, ◌<◌}
use mathlib.Core.Bool.{◌||◌}
use mathlib.Core.Path.{refl, ap}
use native.Mathlib.Omega.{arith}
use lib.Dec.{eqb}
use Rattle.laws.specs.Folds.{any, any_step, ended}
use Rattle.shown.specs.Fits.{column_of}
use Rattle.std.proofs.lemmas.List.{get_or-take, length-take-le}
use Rattle.shown.proofs.taken.Goals as goal

pub loop-column-init : goal.loop-column-init
unfolding any
loop-column-init c = (omega arith, refl)

pub loop-column-preserved : goal.loop-column-preserved
loop-column-preserved c =
    let a = c.args in
    let l = c.loop-column in
    let size = length-take-le a.n a.columns.now c.requires in
    let inside : l.column-index < a.n = omega arith in (
      omega arith,
      any_step (λ (k : ℕ). eqb (column_of a.columns.now k) a.j) l.column-index l.invariant.1
          (ap (λ (x : ℕ). l.found || eqb x a.j) (get_or-take a.n a.columns.now l.column-index 0 inside)),
    )

pub returns : goal.returns
returns c =
    let a = c.args in
    let l = c.loop-column in
    let size = length-take-le a.n a.columns.now c.requires in
    ended (any (λ (k : ℕ). eqb (column_of a.columns.now k) a.j)) l.invariant.0 (omega arith) l.invariant.1
