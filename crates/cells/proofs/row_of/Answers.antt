-- cells::row_of meets its contract.
use Rattle.accepted.specs.Accepted.{accepted}
use Rattle.cells.specs.Survey.{holds_aboard, held_of}
use Rattle.layout.specs.Records.{sheet_of}
use Rattle.rows.specs.MatrixLaws.{row_of}
use native.Mathlib.Omega.{arith}
use mathlib.Core.Path.{refl}
use Rattle.cells.proofs.row_of.Goals as goal

pub fill_aboard-requires : goal.fill_aboard-requires
fill_aboard-requires c =
    let a = c.args in
    let p = c.requires in
    ((accepted a.s.now a.c p.s_value.0).small, refl, refl)

pub car_at-car-requires : goal.car_at-car-requires
car_at-car-requires c =
    let a = c.args in
    let p = c.requires in
    ((accepted a.s.now a.c p.s_value.0).small, p.s_value.1)

pub row_for-requires : goal.row_for-requires
unfolding sheet_of
row_for-requires c =
    let a = c.args in
    let p = c.requires in
    let b = a.s.now in
    let aboard = c.fill_aboard.ensures in
    let seated = holds_aboard (sheet_of b a.c) _ _ _ _ aboard.cars.1 aboard.destinations.1 in
    let k = c.of-known.ensures in
    let small = (accepted b a.c p.s_value.0).small in rw (k.read.0, k.read.1, k.read.3, k.stops.0, k.stops.1, k.aboard.0, k.aboard.1) (record {
      small = (small, p.s_value.2, p.s_value.3, aboard.cars.0, aboard.destinations.0, omega (arith, small.aboards, p.s_value.4), omega (arith, small.aboards, p.s_value.5));
      held = held_of b a.c p.s_value.0 a.ids.now a.xs.now a.masks p.seen_stops _ _ seated;
    })

pub returns : goal.returns
unfolding sheet_of
returns c =
    let a = c.args in
    let p = c.requires in
    let row = c.row_for in
    let aboard = c.fill_aboard.ensures in
    let b = a.s.now in
    let seated = holds_aboard (sheet_of b a.c) _ _ _ _ aboard.cars.1 aboard.destinations.1 in
    let known = held_of b a.c p.s_value.0 a.ids.now a.xs.now a.masks p.seen_stops _ _ seated in
    let k = c.of-known.ensures in
    let done = rw (k.read.0, k.read.1, k.read.2, k.read.3, k.stops.0, k.stops.1, k.aboard.0, k.aboard.1) at row.ensures in
    let of = row_of (sheet_of b a.c) a.ids.now a.xs.now _ _ a.masks known a.limit _ row.result _ _ done.row done.dests.2 done.sides.2 in
    (of.held a.i c.car_at-car.ensures, row.ensures.dests.1, row.ensures.sides.1)
