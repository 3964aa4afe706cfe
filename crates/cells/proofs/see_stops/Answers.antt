-- cells::see_stops meets its contract.
use Rattle.accepted.specs.Accepted.{accepted}
use Rattle.cells.specs.Begun.{begun}
use mathlib.Core.Path.{◌∙◌}
use Rattle.cells.proofs.see_stops.Goals as goal

pub fill_stops-requires : goal.fill_stops-requires
fill_stops-requires c =
    let a = c.args in
    let p = c.requires in
    ((accepted a.s.now a.c p.0).small, p.1, p.2)

pub stop_masks-requires : goal.stop_masks-requires
stop_masks-requires c =
    let a = c.args in
    let p = c.requires in
    let filled = c.fill_stops.ensures in
    let known = begun a.s.now a.c p.0 _ _ _ _ filled.ids.1 filled.points.1 p.2 in
    ((accepted a.s.now a.c p.0).small, known.few_demands, known.few_closures, filled.ids.0 ∙ p.1, known.names, known.boarded)
