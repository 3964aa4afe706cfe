-- bench::run meets its contract.
use Rattle.accepted.specs.Accepted.{accepted}
use Rattle.bench.specs.Done.{same_done}
use Rattle.cells.specs.Begun.{stops_seen}
use Rattle.layout.specs.Records.{sheet_of}
use Rattle.outcome.specs.Outcome.{sweeps_of}
use mathlib.Core.Path.{refl}
use Rattle.bench.proofs.run.Goals as goal

pub see_stops-masks-requires : goal.see_stops-masks-requires
see_stops-masks-requires c = (c.requires.0, refl, refl)

pub fill_sweeps-requires : goal.fill_sweeps-requires
unfolding sheet_of
fill_sweeps-requires c =
    let a = c.args in
    let p = c.requires in
    let b = a.s.now in
    let small = (accepted b a.c p.0).small in
    let seen = c.see_stops-masks.ensures in
    let known = stops_seen (sheet_of b a.c) _ _ seen.ids.1 seen.points.1 seen.masks small.stops refl in record {
      small = (small, seen.points.0, p.3);
      positioned = record { few = small.stops; at = known.stops_held.at; side = known.stops_held.side; masks_are = seen.masks };
    }

pub send-requires : goal.send-requires
unfolding sheet_of
send-requires c =
    let a = c.args in
    let p = c.requires in
    let b = a.s.now in
    let small = (accepted b a.c p.0).small in
    let seen = c.see_stops-masks.ensures in
    (p.0, seen.ids.0, seen.points.0, p.1, p.2, stops_seen (sheet_of b a.c) _ _ seen.ids.1 seen.points.1 seen.masks small.stops refl)

pub shape_of-decisions : goal.shape_of-decisions
shape_of-decisions c = c.send.ensures.decisions.0

pub shape_of-matrix : goal.shape_of-matrix
shape_of-matrix c = c.send.ensures.matrix.0

pub shape_of-sweeps : goal.shape_of-sweeps
shape_of-sweeps c = c.fill_sweeps.ensures.0

pub returns : goal.returns
unfolding sweeps_of
returns c =
    let sent = c.send.ensures in
    let swept = c.fill_sweeps.ensures in record {
      done = same_done sent.answer sent.decisions.1 sent.matrix.1 swept.1;
      lengths = (sent.decisions.0, sent.matrix.0, swept.0);
    }
