-- shown::wrong_columns meets its contract.
use Prim.Native.Nat.{ℕ}
use mathlib.Core.Path.{refl, ap}
use mathlib.Core.Bool.{Bool, ◌||◌}
use native.Mathlib.Omega.{arith}
use lib.Dec.{leb}
use Rattle.laws.specs.Folds.{any, any_step, ended}
use Rattle.shown.specs.Shown.{taken}
use Rattle.shown.specs.Fits.{column_of}
use Rattle.shown.specs.Refusals.{outside, repeats, other_number, same_number}
use Rattle.shown.proofs.wrong_columns.Goals as goal

pub returns-then-columns-n : goal.returns-then-columns-n
returns-then-columns-n c = let a = c.args in other_number a.n a.w a.columns.now c.if-columns-n.true

pub loop-i-init : goal.loop-i-init
unfolding any
loop-i-init c = (omega arith, refl)

pub loop-i-preserved : goal.loop-i-preserved
unfolding outside repeats taken
loop-i-preserved c =
    let a = c.args in
    let l = c.loop-i in
    let cs = a.columns.now in (
      omega (arith, c.loop-i-test.true),
      any_step (λ (k : ℕ). outside a.w cs k || repeats cs k) l.i l.invariant.1
          (ap (λ (b : Bool). l.wrong || (leb a.w (column_of cs l.i) || b)) c.taken.ensures),
    )

pub returns : goal.returns
returns c =
    let a = c.args in
    same_number a.n a.w a.columns.now c.if-columns-n.false
    (ended (any (λ (k : ℕ). outside a.w a.columns.now k || repeats a.columns.now k)) c.loop-i.invariant.0 c.loop-i-test.false
    c.loop-i.invariant.1)
