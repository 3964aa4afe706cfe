-- sweep::Sweep::rank meets its contract.
use Rattle.std.specs.Prelude.{None, Some}
use Rattle.components.specs.declared.Point.{Point}
use Rattle.components.specs.Points.{distance}
use Rattle.sweep.specs.Sweeps.{accepts, sweep_rank}
use Rattle.sweep.specs.declared.Sweep.{Sweep}
use lib.Ieee.{Float}
use mathlib.Core.Bool.{Bool, true, false}
use mathlib.Core.Path.{◌≡◌}
use Rattle.sweep.proofs.Sweep.rank.Goals as goal

accepted : (w : Sweep) (x p : Point) {taken : Bool} {cost : Float} →
    taken ≡ accepts w.mode w.direction x.along p.along →
    taken ≡ true →
    cost ≡ distance x p →
    Some cost ≡ sweep_rank w x p
unfolding sweep_rank
accepted w x p taken_is is cost_is = rw (← taken_is, is, cost_is)

passed_over : (w : Sweep) (x p : Point) {taken : Bool} →
    taken ≡ accepts w.mode w.direction x.along p.along →
    taken ≡ false →
    None ≡ sweep_rank w x p
unfolding sweep_rank
passed_over w x p taken_is is = rw (← taken_is, is)

pub returns-then-accepts : goal.returns-then-accepts
returns-then-accepts c =
    let a = c.args in
    accepted a.self a.x a.p c.accepts.ensures c.if-accepts.true c.distance.ensures

pub returns-else-accepts : goal.returns-else-accepts
returns-else-accepts c =
    let a = c.args in passed_over a.self a.x a.p c.accepts.ensures c.if-accepts.false
