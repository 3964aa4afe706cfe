-- etd::rank meets its contract.
use Rattle.std.specs.Prelude.{None, Option}
use Prim.Native.Nat.{ℕ}
use Rattle.components.specs.declared.Car.{Car}
use Rattle.components.specs.declared.Point.{Point}
use Rattle.components.specs.declared.Policy.{Policy}
use Rattle.dispatch.specs.Pairs.{useful_by}
use Rattle.dispatch.specs.FiniteRank.{finite_rank}
use Rattle.etd.specs.Pairs.{fair_cost_by, rank_by, cost_by_lem}
use Rattle.fp.specs.Num.{zero}
use Rattle.manifest.specs.Stops.{point_in}
use Rattle.manifest.specs.declared.Waiters.{Waiters}
use Rattle.mask.specs.Mask.{has}
use Rattle.riders.specs.declared.Riders.{Riders}
use lib.Ieee.{Float, lt}
use mathlib.Core.Bool.{Bool, true, false}
use mathlib.Core.List.{List}
use mathlib.Core.Path.{◌≡◌}
use Rattle.etd.proofs.rank.Goals as goal
use Rattle.etd.proofs.rank.Goals.{else-pair_is_useful-via-then-pair_is_useful+else-row, else-pair_is_useful-via-else-pair_is_useful}

-- etd::rank meets its contract.
module _ (y : Policy) (car : Car) (goal : Option Point) (r : Riders) (dests sides : List Float) (w : Waiters) (halts : ℕ) (xs : List Float) (j : ℕ)
  where
    moves : {p : Point} {here useful : Bool} {cost : Float} {rank : Option Float} →
        p ≡ point_in xs j →
        here ≡ has r.exits j →
        useful ≡ useful_by car goal r dests w here p.along false →
        useful ≡ true →
        lt zero car.speed ≡ true →
        cost ≡ fair_cost_by y car goal r.count dests sides w halts p →
        rank ≡ finite_rank cost →
        rank ≡ rank_by y car goal r dests sides w halts xs j
    unfolding rank_by
    moves p-is here-is useful_is useful quick cost_is rank_is = rw (← p-is, ← here-is, ← useful_is, useful, quick, ← cost_is) rank_is

    stands : {p : Point} {here useful : Bool} →
        p ≡ point_in xs j →
        here ≡ has r.exits j →
        useful ≡ useful_by car goal r dests w here p.along false →
        useful ≡ true →
        lt zero car.speed ≡ false →
        None ≡ rank_by y car goal r dests sides w halts xs j
    unfolding rank_by
    stands p-is here-is useful_is useful slow = rw (← p-is, ← here-is, ← useful_is, useful, slow)

    useless : {p : Point} {here useful : Bool} →
        p ≡ point_in xs j →
        here ≡ has r.exits j →
        useful ≡ useful_by car goal r dests w here p.along false →
        useful ≡ false →
        None ≡ rank_by y car goal r dests sides w halts xs j
    unfolding rank_by
    useless p-is here-is useful_is not-useful = rw (← p-is, ← here-is, ← useful_is, not-useful)

pub returns-then-row : goal.returns-then-row
returns-then-row c =
    let a = c.args in
    let row = a.row.now in
    moves row.policy row.car row.goal row.riders a.dests.now.along.now a.dests.now.across.now a.waiters a.halts a.stops.now.points.now a.j
    c.point-p.ensures c.has-here.ensures c.pair_is_useful.ensures c.if-pair_is_useful.true c.if-row.true
    (cost_by_lem row.policy row.car row.goal row.riders.count a.dests.now.along.now a.dests.now.across.now a.waiters a.halts _ c.cost_terms.ensures)
    c.finite_rank.ensures

pub returns-else-pair_is_useful : goal.returns-else-pair_is_useful
returns-else-pair_is_useful c =
    let a = c.args in
    let row = a.row.now in
    elim c.else-pair_is_useful.branch [
      | else-pair_is_useful-via-then-pair_is_useful+else-row w ↦
          stands row.policy row.car row.goal row.riders a.dests.now.along.now a.dests.now.across.now a.waiters a.halts a.stops.now.points.now a.j
          c.point-p.ensures c.has-here.ensures c.pair_is_useful.ensures w.if-pair_is_useful.true w.if-row.false
      | else-pair_is_useful-via-else-pair_is_useful w ↦
          useless row.policy row.car row.goal row.riders a.dests.now.along.now a.dests.now.across.now a.waiters a.halts a.stops.now.points.now a.j
          c.point-p.ensures c.has-here.ensures c.pair_is_useful.ensures w.if-pair_is_useful.false
    ]
