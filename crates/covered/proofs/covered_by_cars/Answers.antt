-- covered::covered_by_cars meets its contract.
use Rattle.covered.specs.Served.{served_ids, served_only, none_served}
use Rattle.layout.specs.Records.{sheet_of}
use mathlib.Core.Path.{◌∙◌}
use Rattle.covered.proofs.covered_by_cars.Goals as goal

pub returns-then-served-eq0 : goal.returns-then-served-eq0
unfolding sheet_of
returns-then-served-eq0 c =
    let a = c.args in
    none_served (sheet_of a.s.now a.c) a.asked a.names.now c.requires.2 c.served_stops-served.result c.served_stops-served.ensures c.if-served-eq0.true

pub covered_by_columns-requires : goal.covered_by_columns-requires
unfolding sheet_of
covered_by_columns-requires c =
    let a = c.args in
    let p = c.requires in
    (p.0, p.1, served_ids (sheet_of a.s.now a.c) a.asked a.names.now p.2 c.served_stops-served.result c.served_stops-served.ensures)

pub returns : goal.returns
unfolding sheet_of
returns c =
    let a = c.args in
    c.covered_by_columns.ensures
    ∙ served_only (sheet_of a.s.now a.c) a.asked a.names.now c.requires.2 c.served_stops-served.result c.served_stops-served.ensures
