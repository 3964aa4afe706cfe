-- matcher::assign meets its contract.
use mathlib.Core.Path.{sym, ◌∙◌}
use lib.ListN.{length}
use Rattle.matcher.specs.Promise.{all_fit}
use Rattle.matcher.specs.Fits.{fitting, many_cars, many_columns, few_columns, wrong_count, few_places, large_cell, refuse}
use Rattle.matcher.specs.Fits.{accept}
use Rattle.matcher.proofs.assign.Goals as goal

pub returns-then-cars-gt32 : goal.returns-then-cars-gt32
returns-then-cars-gt32 c = refuse c.args.cars c.args.columns c.args.cells.now c.args.places.now (many_cars c.args.cars c.args.columns c.args.cells.now (length c.args.places.now) c.if-cars-gt32.true)

pub returns-then-columns-gt64 : goal.returns-then-columns-gt64
returns-then-columns-gt64 c = refuse c.args.cars c.args.columns c.args.cells.now c.args.places.now (many_columns c.args.cars c.args.columns c.args.cells.now (length c.args.places.now) c.if-columns-gt64.true)

pub returns-then-columns-cars : goal.returns-then-columns-cars
returns-then-columns-cars c = refuse c.args.cars c.args.columns c.args.cells.now c.args.places.now (few_columns c.args.cars c.args.columns c.args.cells.now (length c.args.places.now) c.if-columns-cars.true)

pub returns-then-cells-cars : goal.returns-then-cells-cars
returns-then-cells-cars c = refuse c.args.cars c.args.columns c.args.cells.now c.args.places.now (wrong_count c.args.cars c.args.columns c.args.cells.now (length c.args.places.now) c.if-cells-cars.true)

pub returns-then-places-cars : goal.returns-then-places-cars
returns-then-places-cars c = refuse c.args.cars c.args.columns c.args.cells.now c.args.places.now (few_places c.args.cars c.args.columns c.args.cells.now (length c.args.places.now) c.if-places-cars.true)

pub returns-then-too_large : goal.returns-then-too_large
returns-then-too_large c = refuse c.args.cars c.args.columns c.args.cells.now c.args.places.now (large_cell c.args.cars c.args.columns c.args.cells.now (length c.args.places.now) (sym c.too_large.ensures ∙ c.if-too_large.true))

pub choose-requires : goal.choose-requires
choose-requires c = (fitting c.if-cars-gt32.false c.if-columns-gt64.false c.if-columns-cars.false c.if-cells-cars.false (sym c.too_large.ensures ∙ c.if-too_large.false), c.if-places-cars.false)

pub returns : goal.returns
returns c =
    let g = c.args in
    let e = c.choose.ensures in
    accept g.cars g.columns g.cells.now g.places.now c.choose.new.places c.choose.result
    (all_fit g.cars g.columns g.cells.now (length g.places.now) c.if-cars-gt32.false c.if-columns-gt64.false c.if-columns-cars.false c.if-cells-cars.false c.if-places-cars.false
    (sym c.too_large.ensures ∙ c.if-too_large.false))
    e.total e.columns
