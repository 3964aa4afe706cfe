-- plain_matcher::assign meets its contract.
use mathlib.Core.Path.{sym, ◌∙◌}
use Rattle.plain_matcher.proofs.Fits.{small, many_cars, many_columns, few_columns, wrong_count, large_cell, all_fits}
use Rattle.plain_matcher.proofs.assign.Goals as goal

pub returns-then-cars-gt4 : goal.returns-then-cars-gt4
returns-then-cars-gt4 c = let a = c.args in many_cars a.cars a.columns a.cells.now c.if-cars-gt4.true

pub returns-then-columns-gt5 : goal.returns-then-columns-gt5
returns-then-columns-gt5 c = let a = c.args in many_columns a.cars a.columns a.cells.now c.if-columns-gt5.true

pub returns-then-columns-cars : goal.returns-then-columns-cars
returns-then-columns-cars c = let a = c.args in few_columns a.cars a.columns a.cells.now c.if-columns-cars.true

pub returns-then-cells-cars : goal.returns-then-cells-cars
returns-then-cells-cars c = let a = c.args in wrong_count a.cars a.columns a.cells.now c.if-cells-cars.true

pub returns-then-too_large : goal.returns-then-too_large
returns-then-too_large c =
    let a = c.args in
    large_cell a.cars a.columns a.cells.now (sym c.too_large.ensures ∙ c.if-too_large.true)

pub choose-requires : goal.choose-requires
choose-requires c =
    let a = c.args in
    small a.cars a.columns a.cells.now c.if-cars-gt4.false c.if-columns-gt5.false
    c.if-columns-cars.false c.if-cells-cars.false (sym c.too_large.ensures ∙ c.if-too_large.false)

pub returns : goal.returns
returns c =
    let a = c.args in
    c.choose.ensures
    ∙ all_fits a.cars a.columns a.cells.now c.if-cars-gt4.false
    c.if-columns-gt5.false c.if-columns-cars.false c.if-cells-cars.false
    (sym c.too_large.ensures ∙ c.if-too_large.false)
