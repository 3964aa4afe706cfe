-- rows::Known::row_for meets its contract.
use Rattle.layout.specs.Records.{sheet_of}
use Rattle.rows.specs.HeldLaws.{held_ascending}
use Rattle.rows.specs.MatrixLaws.{row_for_is}
use Rattle.pending.specs.Masks.{pending_are}
use Rattle.ranking.specs.Ranking.{sweep_from}
use Rattle.riders.specs.Riders.{riders_in, seats_length}
use Rattle.manifest.specs.Stops.{point_is}
use Rattle.sweep.specs.declared.Sweep.{Sweep}
use mathlib.Core.Path.{◌≡◌, ap, ◌∙◌}
use native.Mathlib.Omega.{arith}
use Rattle.rows.proofs.Known.row_for.Goals as goal

pub riders_of-riders-requires : goal.riders_of-riders-requires
unfolding sheet_of
riders_of-riders-requires c =
    let p = c.requires in
    let n = c.args.self.now.of_sheet.1 in
    let na = c.args.self.now.of_sheet.2 in record {
      stops = (
        (omega (arith, p.small.0.stops, p.small.1, n), rw n (held_ascending p.held), omega (arith, p.small.0.stops, p.small.2, n)),
        omega (arith, p.small.0.stops, n),
      );
      aboard = (omega (arith, p.small.0.aboards, p.small.3, na), omega (arith, p.small.0.aboards, p.small.4, na));
      buffers = (omega (arith, p.small.5, na), omega (arith, p.small.6, na));
    }

pub goal-goal-requires : goal.goal-goal-requires
unfolding sheet_of
goal-goal-requires c =
    let p = c.requires in
    let n = c.args.self.now.of_sheet.1 in
    (omega (arith, p.small.0.stops, p.small.1, n), rw n (held_ascending p.held), omega (arith, p.small.0.stops, p.small.2, n))

pub sweep_after-sweep-requires : goal.sweep_after-sweep-requires
sweep_after-sweep-requires c = let p = c.requires in (omega (arith, p.small.0.stops, c.args.self.now.of_sheet.1), omega (arith, p.small.0.stops, p.small.2, c.args.self.now.of_sheet.1))

pub kept_by-kept-requires : goal.kept_by-kept-requires
unfolding sheet_of
kept_by-kept-requires c =
    let a = c.args in
    let s = a.self.now in
    let p = c.requires in
    let h = p.held in record {
      small = (p.small.0, p.small.2, record { at = point_is (sheet_of s.sheet.now s.counts) s.stops.ids.now s.stops.points.now s.counts.stops h.stops_held }, h.rising);
      stops_value = pending_are (sheet_of s.sheet.now s.counts) h.masks_are;
    }

pub returns : goal.returns
unfolding sheet_of
returns c =
    let a = c.args in
    let s = a.self.now in
    let p = c.requires in
    let riders = c.riders_of-riders in
    let seats = rw (c.args.self.now.of_sheet.1, c.args.self.now.of_sheet.2) at riders.ensures in
    let goal = c.goal-goal in
    let sweep = c.sweep_after-sweep in
    let seated : riders.result ≡ riders_in s.stops.ids.now s.counts.stops s.aboard.cars.now s.aboard.destinations.now a.car.id s.counts.aboards = seats.answered in
    let len = seats_length s.stops.ids.now s.stops.points.now s.counts.stops s.aboard.cars.now s.aboard.destinations.now a.car.id s.counts.aboards seats (omega (arith, p.small.0.aboards, p.small.5)) (omega (arith, p.small.0.aboards, p.small.6)) in
    let swept = (rw c.args.self.now.of_sheet.1 at sweep.ensures)
    ∙ ap (λ (w : Sweep). sweep_from s.policy.strategy w a.car.listed a.car.position.along s.masks.pending s.masks.demand s.stops.points.now s.counts.stops) c.of.ensures in record {
      row = row_for_is (sheet_of s.sheet.now s.counts) s.stops.ids.now s.stops.points.now s.aboard.cars.now s.aboard.destinations.now s.masks s.limit
          s.policy a.car sweep.result goal.result riders.result c.kept_by-kept.result
          s.of_sheet.0 seated (rw c.args.self.now.of_sheet.1 at goal.ensures) swept c.kept_by-kept.ensures;
      dests = (len.0.0, len.0.1, seats.held);
      sides = (len.1.0, len.1.1, seats.aside);
    }
