-- replay_ranks::rank_of meets its contract.
use Rattle.accepted.specs.Accepted.{accepted}
use Rattle.cells.specs.Begun.{stops_seen}
use Rattle.layout.specs.Records.{sheet_of}
use mathlib.Core.Path.{refl}
use Rattle.replay_ranks.proofs.rank_of.Goals as goal

pub see_stops-masks-requires : goal.see_stops-masks-requires
see_stops-masks-requires c = (c.requires.0, refl, refl)

pub rank_by-requires : goal.rank_by-requires
unfolding sheet_of
rank_by-requires c =
    let a = c.args in
    let p = c.requires in
    let seen = c.see_stops-masks.ensures in record {
      s_value = (p.0, p.1, p.2, seen.ids.0, seen.points.0);
      seen_stops = stops_seen (sheet_of a.s.now a.c) _ _ seen.ids.1 seen.points.1 seen.masks
          (accepted a.s.now a.c p.0).small.stops refl;
    }
