-- pending::bound_stops meets its contract.
use Rattle.pending.specs.Same.{idle_column}
use native.Mathlib.Omega.{arith}
use Rattle.pending.proofs.bound_stops.Goals as goal

pub riders_bound-requires : goal.riders_bound-requires
riders_bound-requires c =
    let a = c.args in
    let p = c.requires in
    let filled = c.fill_guarded.ensures in
    (p.0, omega (arith, filled.0), p.1, p.2, p.3, idle_column a.s.now a.c c.cars_from.result c.car_bits.result _ _ c.cars_from.ensures c.car_bits.ensures filled.1)
