-- plain_matcher::fill_columns meets its contract.
use native.Mathlib.Omega.{arith}
use mathlib.Core.Path.{sym, ◌∙◌}
use lib.ListN.{length}
use Rattle.std.proofs.lemmas.Result.{err_from_is_err_and}
use Rattle.plain_matcher.proofs.Fits.{few_places, enough_places, chosen_few, left_by}
use Rattle.plain_matcher.proofs.fill_columns.Goals as goal

pub returns-then-places-lt4 : goal.returns-then-places-lt4
returns-then-places-lt4 c =
    let a = c.args in
    left_by a.cars a.places.now (few_places a.cars a.columns a.cells.now (length a.places.now) c.if-places-lt4.true)

pub put_columns-requires : goal.put_columns-requires
put_columns-requires c =
    let a = c.args in
    omega (arith, chosen_few a.cars a.columns a.cells.now (sym c.in_ok-chosen.was ∙ c.assign.ensures), c.if-places-lt4.false)

pub returns : goal.returns
returns c =
    let a = c.args in
    let e = sym c.in_ok-chosen.was ∙ c.assign.ensures in
    let h = left_by a.cars a.places.now (e ∙ enough_places a.cars a.columns a.cells.now (length a.places.now) c.if-places-lt4.false) in
    (h.0, c.put_columns.ensures ∙ h.1)

pub returns-in_err-chosen : goal.returns-in_err-chosen
returns-in_err-chosen c =
    let a = c.args in
    let p = err_from_is_err_and c.from_residual.result c.from_residual.ensures.1 in
    rw (p.1, p.2)
    (left_by a.cars a.places.now (sym c.in_err-chosen.was ∙ c.assign.ensures ∙ enough_places a.cars a.columns a.cells.now (length a.places.now) c.if-places-lt4.false))
