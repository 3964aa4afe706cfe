-- rows::fill_spare meets its contract.
use Prim.Native.Nat.{◌-◌}
use Rattle.rows.specs.RowLaws.{sparing_next}
use mathlib.Core.Path.{refl}
use native.Mathlib.Omega.{arith}
use Rattle.rows.proofs.fill_spare.Goals as goal

pub loop-k-init : goal.loop-k-init
loop-k-init c = record { from = omega arith; below = c.requires; size = refl; kept = λ j l. refl; spare = λ j a b. absurd (omega arith) }

pub offset_bounds-out-k : goal.offset_bounds-out-k
offset_bounds-out-k c = omega (arith, c.loop-k.invariant.size)

pub bounds-out-k : goal.bounds-out-k
bounds-out-k c = omega (arith, c.loop-k.invariant.size)

pub loop-k-smaller : goal.loop-k-smaller
loop-k-smaller c = omega (arith, c.loop-k.invariant.size)

pub loop-k-preserved : goal.loop-k-preserved
loop-k-preserved c =
    let l = c.loop-k in
    let a = c.args in
    sparing_next a.m l.k a.out.now l.out l.invariant (omega (arith, l.invariant.size))

pub shape_of-out : goal.shape_of-out
shape_of-out c = c.loop-k.invariant.size

pub returns : goal.returns
returns c =
    let l = c.loop-k.invariant in
    record { size = l.size; before = l.kept; spare = λ k a b. l.spare k a (omega (arith, l.size)) }
