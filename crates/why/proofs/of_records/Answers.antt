-- why::of_records meets its contract.
use Rattle.accepted.specs.Accepted.{accepted}
use Rattle.cells.specs.Ids.{rising_of}
use Rattle.bits.specs.Field.{field_lt}
use Rattle.layout.specs.Records.{sheet_of, limit_of}
use Rattle.pending.specs.Masks.{calls_are}
use Rattle.why.specs.PairLaws.{told}
use mathlib.Core.Path.{refl, ◌∙◌}
use native.Mathlib.Omega.{arith}
use Rattle.why.proofs.of_records.Goals as goal

pub overflow_cast-most : goal.overflow_cast-most
unfolding limit_of
overflow_cast-most c = omega (arith, c.limit-most.ensures, field_lt c.args.s.now 48 16)

pub row_of-row-requires : goal.row_of-row-requires
row_of-row-requires c =
    let p = c.requires in record {
      s_value = (p.s_value.0, p.s_value.1, p.s_value.3, p.s_value.4, refl, refl);
      seen_stops = p.seen_stops;
    }

pub waiting-someone-requires : goal.waiting-someone-requires
unfolding sheet_of
waiting-someone-requires c =
    let a = c.args in
    let p = c.requires in
    ((accepted a.s.now a.c p.s_value.0).small, p.s_value.3, p.s_value.4, p.seen_stops.stops_held, rising_of a.s.now a.c p.s_value.0, calls_are (sheet_of a.s.now a.c) p.seen_stops.masks_are, refl)

pub waiters_at-v-requires : goal.waiters_at-v-requires
waiters_at-v-requires c =
    let a = c.args in
    let p = c.requires in
    (omega (arith, (accepted a.s.now a.c p.s_value.0).small.stops, p.s_value.2), c.waiting-someone.ensures.size)

pub line_stops-requires : goal.line_stops-requires
line_stops-requires c =
    let a = c.args in
    let p = c.requires in
    (accepted a.s.now a.c p.s_value.0).small

pub has-served-requires : goal.has-served-requires
has-served-requires c =
    let a = c.args in
    let p = c.requires in
    omega (arith, (accepted a.s.now a.c p.s_value.0).small.stops, p.s_value.2)

pub has-waits-requires : goal.has-waits-requires
has-waits-requires c =
    let a = c.args in
    let p = c.requires in
    omega (arith, (accepted a.s.now a.c p.s_value.0).small.stops, p.s_value.2)

pub of_row-requires : goal.of_row-requires
of_row-requires c =
    let a = c.args in
    let p = c.requires in
    let small = (accepted a.s.now a.c p.s_value.0).small.stops in
    let row = c.row_of-row.ensures in
    (((row.1, row.2), small, omega (arith, small, p.s_value.4)), p.s_value.2)

pub returns : goal.returns
unfolding sheet_of
returns c =
    let a = c.args in
    let p = c.requires in
    let row = c.row_of-row in
    let waiters = c.waiting-someone in
    let lines = c.line_stops in
    c.of_row.ensures
    ∙ told a.s.now a.c p.s_value.0 a.ids.now a.xs.now a.masks p.seen_stops a.i a.j p.s_value.1 p.s_value.2 row.result
    c.limit-most.ensures row.ensures.0 waiters.result _ _ waiters.ensures c.waiters_at-v.ensures lines.result lines.ensures
    c.has-served.ensures c.has-waits.ensures
