-- cells::fill_matrix meets its contract.
use Rattle.accepted.specs.Accepted.{accepted}
use Rattle.cells.specs.Ids.{rising_of}
use Rattle.cells.specs.Survey.{holds_aboard, ready}
use Rattle.layout.specs.Records.{sheet_of}
use Rattle.pending.specs.Masks.{calls_are}
use mathlib.Core.Path.{refl}
use Rattle.cells.proofs.fill_matrix.Goals as goal

pub fill_aboard-requires : goal.fill_aboard-requires
fill_aboard-requires c =
    let a = c.args in
    let p = c.requires in
    ((accepted a.s.now a.c p.s_value.0).small, refl, refl)

pub waiting-someone-requires : goal.waiting-someone-requires
unfolding sheet_of
waiting-someone-requires c =
    let a = c.args in
    let p = c.requires in
    ((accepted a.s.now a.c p.s_value.0).small, p.s_value.1, p.s_value.2, p.survey.seen.stops_held, rising_of a.s.now a.c p.s_value.0, calls_are (sheet_of a.s.now a.c) p.survey.seen.masks_are, refl)

pub fill_rows-requires : goal.fill_rows-requires
unfolding sheet_of
fill_rows-requires c =
    let a = c.args in
    let p = c.requires in
    let b = a.s.now in
    let aboard = c.fill_aboard.ensures in
    let k = c.of-known.ensures in
    let held = holds_aboard (sheet_of b a.c) _ _ _ _ aboard.cars.1 aboard.destinations.1 in
    rw (k.read.0, k.read.1, k.read.3, k.stops.0, k.stops.1, k.aboard.0, k.aboard.1) (record {
      rows_need = record {
        small = (accepted b a.c p.s_value.0).small;
        ids_size = p.s_value.1;
        xs_size = p.s_value.2;
        acar_size = aboard.cars.0;
        adest_size = aboard.destinations.0;
        sums_size = c.waiting-someone.ensures.size;
        fits = p.s_value.3;
        ready = ready b a.c p.s_value.0 a.ids.now a.xs.now a.masks a.stops a.idle p.survey _ _ held _ _ _ c.waiting-someone.ensures;
      };
      rows = (p.survey.rows, p.s_value.4, p.s_value.5);
    })

pub shape_of-matrix : goal.shape_of-matrix
shape_of-matrix c = c.fill_rows.ensures.size

pub returns : goal.returns
returns c = let k = c.of-known.ensures in rw (k.read.0, k.read.1, k.read.2) at c.fill_rows.ensures
