-- rsr::rank meets its contract.
use Rattle.std.specs.Prelude.{None, Option}
use Prim.Native.Nat.{ℕ}
use Rattle.components.specs.declared.Car.{Car}
use Rattle.components.specs.declared.Policy.{Policy}
use Rattle.dispatch.specs.Pairs.{useful_by}
use Rattle.dispatch.specs.FiniteRank.{finite_rank}
use Rattle.fp.specs.Num.{zero}
use Rattle.components.specs.declared.Point.{Point}
use Rattle.manifest.specs.Stops.{point_in}
use Rattle.manifest.specs.declared.Waiters.{Waiters}
use Rattle.mask.specs.Mask.{has}
use Rattle.riders.specs.declared.Riders.{Riders}
use Rattle.rsr.specs.Pairs.{rank_by}
use Rattle.rsr.specs.Rsr.{rsr_cost_of, cost_by_lem}
use lib.Ieee.{Float, le}
use mathlib.Core.Bool.{Bool, true, false}
use mathlib.Core.List.{List}
use mathlib.Core.Path.{◌≡◌}
use Rattle.rsr.proofs.rank.Goals as goal

-- rsr::rank meets its contract.
module _ (y : Policy) (car : Car) (goal : Option Point) (r : Riders) (dests : List Float) (w : Waiters) (xs : List Float) (j : ℕ) where
  stands : {here useful : Bool} {p : Point} →
      p ≡ point_in xs j →
      here ≡ has r.exits j →
      useful ≡ useful_by car goal r dests w here p.along true →
      useful ≡ true →
      le car.speed zero ≡ true →
      None ≡ rank_by y car goal r dests w xs j
  unfolding rank_by
  stands p-is here-is useful_is useful slow = rw (← p-is, ← here-is, ← useful_is, useful, slow)

  moves : {here call useful : Bool} {p : Point} {cost : Float} {rank : Option Float} →
      p ≡ point_in xs j →
      here ≡ has r.exits j →
      call ≡ has car.calls j →
      useful ≡ useful_by car goal r dests w here p.along true →
      useful ≡ true →
      le car.speed zero ≡ false →
      cost ≡ rsr_cost_of y car goal w.waitsum call p →
      rank ≡ finite_rank cost →
      rank ≡ rank_by y car goal r dests w xs j
  unfolding rank_by
  moves p-is here-is call_is useful_is useful quick cost_is rank_is =
      rw (← p-is, ← here-is, ← call_is, ← useful_is, useful, quick, ← cost_is) rank_is

  useless : {here useful : Bool} {p : Point} →
      p ≡ point_in xs j →
      here ≡ has r.exits j →
      useful ≡ useful_by car goal r dests w here p.along true →
      useful ≡ false →
      None ≡ rank_by y car goal r dests w xs j
  unfolding rank_by
  useless p-is here-is useful_is not-useful = rw (← p-is, ← here-is, ← useful_is, not-useful)

pub returns-then-row : goal.returns-then-row
returns-then-row c =
    let asked = c in
    let a = asked.args in
    let row = a.row.now in
    stands row.policy row.car row.goal row.riders a.dests.now a.waiters a.stops.now.points.now a.j asked.point-p.ensures asked.has-here.ensures
    asked.pair_is_useful.ensures c.if-pair_is_useful.true c.if-row.true

pub returns-else-row : goal.returns-else-row
returns-else-row c =
    let asked = c in
    let a = asked.args in
    let row = a.row.now in
    moves row.policy row.car row.goal row.riders a.dests.now a.waiters a.stops.now.points.now a.j asked.point-p.ensures asked.has-here.ensures
    asked.has-call.ensures asked.pair_is_useful.ensures c.if-pair_is_useful.true
    c.if-row.false (cost_by_lem row.policy row.car row.goal a.waiters.waitsum _ _ c.cost_terms.ensures) c.finite_rank.ensures

pub returns-else-pair_is_useful : goal.returns-else-pair_is_useful
returns-else-pair_is_useful c =
    let asked = c in
    let a = asked.args in
    let row = a.row.now in
    useless row.policy row.car row.goal row.riders a.dests.now a.waiters a.stops.now.points.now a.j asked.point-p.ensures asked.has-here.ensures
    asked.pair_is_useful.ensures c.if-pair_is_useful.false
