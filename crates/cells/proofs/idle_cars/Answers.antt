-- cells::idle_cars meets its contract.
use Prim.Native.Nat.{ℕ, ◌-◌}
use Rattle.assignment.specs.Pending.{idle}
use Rattle.cells.specs.Survey.{idle_mask}
use Rattle.layout.specs.Records.{sheet_of, car_of}
use Rattle.mask.specs.UpTo.{built_to, none_yet, one_more}
use mathlib.Core.Path.{◌≡◌, refl, ap, ◌∙◌}
use native.Mathlib.Omega.{arith}
use Rattle.cells.proofs.idle_cars.Goals as goal

pub loop-i-init : goal.loop-i-init
loop-i-init c = let a = c.args in (omega arith, none_yet (idle (sheet_of a.s.now a.c)))

pub with_if-m-requires : goal.with_if-m-requires
with_if-m-requires c = omega (arith, c.requires.cars, c.loop-i-test.true)

pub loop-i-preserved : goal.loop-i-preserved
unfolding sheet_of car_of idle
loop-i-preserved c =
    let a = c.args in
    let l = c.loop-i in
    (omega (arith, c.loop-i-test.true), one_more (idle (sheet_of a.s.now a.c)) l.i l.m _ l.invariant.1 (c.flag-listed.ensures ∙ rw c.car_start.ensures refl) c.with_if-m.ensures)

pub returns : goal.returns
unfolding sheet_of idle_mask built_to
returns c =
    let a = c.args in
    let l = c.loop-i in
    let e : l.i ≡ a.c.cars = omega (arith, l.invariant.0, c.loop-i-test.false) in
    l.invariant.1 ∙ ap (λ (k : ℕ). built_to (idle (sheet_of a.s.now a.c)) k) e
