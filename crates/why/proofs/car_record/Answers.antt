-- why::car_record meets its contract.
use Rattle.components.specs.declared.Car.{Car}
use Rattle.laws.specs.Folds.{lookup, lookup_step, ended}
use Rattle.layout.specs.Records.{sheet_of}
use Rattle.why.specs.Why.{car_record}
use lib.Dec.{eqb}
use mathlib.Core.Bool.{cond}
use mathlib.Core.Path.{refl, ap, ◌∙◌}
use native.Mathlib.Omega.{arith}
use Rattle.why.proofs.car_record.Goals as goal

pub loop-i-init : goal.loop-i-init
unfolding lookup
loop-i-init c = (omega arith, refl)

pub loop-i-smaller : goal.loop-i-smaller
loop-i-smaller c = omega arith

pub loop-i-preserved : goal.loop-i-preserved
loop-i-preserved c =
    let a = c.args in
    let l = c.loop-i in
    let car = c.car_at-car in (
      omega arith,
      lookup_step (λ k. eqb ((sheet_of a.s.now a.c).car k).id a.id) (λ k. k) a.c.cars l.i l.invariant.1
          (c.either-found.ensures ∙ ap (λ (x : Car). cond (eqb x.id a.id) l.i l.found) car.ensures),
    )

pub returns : goal.returns
unfolding car_record sheet_of
returns c =
    let a = c.args in
    let l = c.loop-i in
    ended (lookup (λ k. eqb ((sheet_of a.s.now a.c).car k).id a.id) (λ k. k) a.c.cars) l.invariant.0 c.loop-i-test.false l.invariant.1
