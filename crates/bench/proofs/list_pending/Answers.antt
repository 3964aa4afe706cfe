-- bench::list_pending meets its contract.
use Rattle.std.specs.Prelude.{Ok}
use Rattle.bench.specs.Passing.{small_of}
use Rattle.bench.specs.PendingStops.{same_pending, found, most, below, ids_are}
use Rattle.cells.specs.Begun.{stops_seen}
use Rattle.layout.specs.Records.{sheet_of}
use mathlib.Core.Path.{refl, ap}
use Rattle.bench.proofs.list_pending.Goals as goal

pub see_stops-masks-requires : goal.see_stops-masks-requires
see_stops-masks-requires c = (c.requires.0, refl, refl)

pub name_stops-requires : goal.name_stops-requires
unfolding sheet_of
name_stops-requires c =
    let a = c.args in
    let p = c.requires in
    let s = sheet_of a.s.now a.c in
    let few = (small_of a.s.now a.c p.0).stops in
    let seen = c.see_stops-masks.ensures in
    let known = stops_seen s _ _ seen.ids.1 seen.points.1 seen.masks few refl in
    let ones = c.list_ones-listed.ensures in (
      seen.ids.0,
      most s few _ _ _ known _ ones,
      below s few _ _ _ known _ ones,
      p.1,
    )

pub shape_of-stops : goal.shape_of-stops
shape_of-stops c = c.name_stops.ensures.0

pub returns : goal.returns
unfolding sheet_of
returns c =
    let a = c.args in
    let s = sheet_of a.s.now a.c in
    let few = (small_of a.s.now a.c c.requires.0).stops in
    let seen = c.see_stops-masks.ensures in
    let known = stops_seen s _ _ seen.ids.1 seen.points.1 seen.masks few refl in
    let ones = c.list_ones-listed.ensures in
    let named = c.name_stops.ensures in record {
      done = same_pending (ap Ok (found s few _ _ _ known _ ones)) (ids_are s few _ _ _ known _ ones a.stops.now named.1);
      length = named.0;
    }
