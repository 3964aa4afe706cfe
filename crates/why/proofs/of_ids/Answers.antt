-- why::of_ids meets its contract.
use Rattle.accepted.specs.Accepted.{accepted}
use Rattle.cells.specs.Ids.{rising_of}
use Rattle.cells.specs.Begun.{stops_seen}
use Rattle.layout.specs.Records.{sheet_of, limit_of}
use Rattle.manifest.specs.Stops.{ascending}
use Rattle.why.specs.PairLaws.{record_is}
use Rattle.why.specs.Why.{both_found, no_stop, no_car}
use mathlib.Core.Path.{refl, ◌∙◌}
use native.Mathlib.Omega.{arith}
use Rattle.why.proofs.of_ids.Goals as goal

pub see_stops-masks-requires : goal.see_stops-masks-requires
see_stops-masks-requires c = (c.requires, refl, refl)

pub car_record-i-requires : goal.car_record-i-requires
car_record-i-requires c =
    let a = c.args in
    (accepted a.s.now a.c c.requires).small

pub stop_index-j-requires : goal.stop_index-j-requires
unfolding sheet_of
stop_index-j-requires c =
    let a = c.args in
    let p = c.requires in
    let b = a.s.now in
    let few = (accepted b a.c p).small.stops in
    let seen = c.see_stops-masks.ensures in
    let stops = stops_seen (sheet_of b a.c) _ _ seen.ids.1 seen.points.1 seen.masks few refl in
    (omega (arith, few, seen.ids.0), ascending (sheet_of b a.c) _ _ a.c.stops stops.stops_held (rising_of b a.c p))

pub of_records-requires : goal.of_records-requires
unfolding sheet_of
of_records-requires c =
    let a = c.args in
    let p = c.requires in
    let b = a.s.now in
    let seen = c.see_stops-masks.ensures in
    let stops = stops_seen (sheet_of b a.c) _ _ seen.ids.1 seen.points.1 seen.masks (accepted b a.c p).small.stops refl in record {
      s_value = (p, c.if-i-c.true, c.if-j-c.true, seen.ids.0, seen.points.0);
      seen_stops = stops;
    }

pub returns-then-j-c : goal.returns-then-j-c
unfolding sheet_of
returns-then-j-c c =
    let a = c.args in
    let p = c.requires in
    let b = a.s.now in
    let seen = c.see_stops-masks.ensures in
    let stops = stops_seen (sheet_of b a.c) _ _ seen.ids.1 seen.points.1 seen.masks (accepted b a.c p).small.stops refl in
    both_found (sheet_of b a.c) (limit_of b) a.car a.stop c.car_record-i.ensures c.if-i-c.true
    (c.stop_index-j.ensures ∙ record_is (sheet_of b a.c) _ _ stops.stops_held a.stop) c.if-j-c.true c.of_records.ensures

pub returns-then-i-c : goal.returns-then-i-c
unfolding sheet_of
returns-then-i-c c =
    let a = c.args in
    let p = c.requires in
    let b = a.s.now in
    let seen = c.see_stops-masks.ensures in
    let stops = stops_seen (sheet_of b a.c) _ _ seen.ids.1 seen.points.1 seen.masks (accepted b a.c p).small.stops refl in
    no_stop (sheet_of b a.c) (limit_of b) a.car a.stop c.car_record-i.ensures c.if-i-c.true
    (c.stop_index-j.ensures ∙ record_is (sheet_of b a.c) _ _ stops.stops_held a.stop) c.if-j-c.false

pub returns : goal.returns
unfolding sheet_of
returns c =
    let a = c.args in
    no_car (sheet_of a.s.now a.c) (limit_of a.s.now) a.car a.stop c.car_record-i.ensures c.if-i-c.false
