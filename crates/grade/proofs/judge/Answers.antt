-- grade::judge meets its contract.
use Rattle.accepted.specs.Accepted.{accepted}
use Rattle.bits.specs.Field.{field_lt}
use Rattle.bench.specs.Passing.{small_of, survey, under, car_number, width, narrow, wide, cells_are}
use Rattle.cells.specs.Begun.{stops_seen}
use Rattle.grade.specs.Graded.{sent}
use Rattle.grade.specs.Grading.{columns_refused, prices_refused, priced, inside, is_judged}
use Rattle.layout.specs.Records.{sheet_of, limit_of}
use mathlib.Core.Path.{refl, sym, ◌∙◌}
use native.Mathlib.Omega.{arith}
use Rattle.grade.proofs.judge.Goals as goal

pub see_stops-masks-requires : goal.see_stops-masks-requires
see_stops-masks-requires c = (c.requires.0, refl, refl)

pub list_cars-idle-requires : goal.list_cars-idle-requires
list_cars-idle-requires c =
    let a = c.args in
    let p = c.requires in
    let b = a.s.now in
    (accepted b a.c p.0).small

pub returns-then-wrong_columns : goal.returns-then-wrong_columns
unfolding sheet_of
returns-then-wrong_columns c =
    let a = c.args in
    let p = c.requires in
    let b = a.s.now in
    let s = sheet_of b a.c in
    let e = (accepted b a.c p.0).small in
    let seen = c.see_stops-masks.ensures in
    let stops-known = stops_seen s _ _ seen.ids.1 seen.points.1 seen.masks e.stops refl in
    let m = c.list_ones-stops in
    let n = c.list_cars-idle in
    let w = c.columns-w in
    let small = small_of b a.c p.0 in
    let known = survey b a.c p.0 _ _ _ stops-known m.result m.ensures n.result n.ensures in
    let x = sent a.columns.now a.u.now a.v.now in
    let cars-are = car_number s (limit_of b) small _ _ _ m.result n.result known w.result w.ensures in
    let columns-are = width s (limit_of b) small _ _ _ m.result n.result known w.result w.ensures in record {
      done = columns_refused s (limit_of b) x a.matrix.now cars-are columns-are (sym c.wrong_columns.ensures ∙ c.if-wrong_columns.true);
      length = refl;
    }

pub returns-then-wrong_prices : goal.returns-then-wrong_prices
unfolding sheet_of
returns-then-wrong_prices c =
    let a = c.args in
    let p = c.requires in
    let b = a.s.now in
    let s = sheet_of b a.c in
    let e = (accepted b a.c p.0).small in
    let seen = c.see_stops-masks.ensures in
    let stops-known = stops_seen s _ _ seen.ids.1 seen.points.1 seen.masks e.stops refl in
    let m = c.list_ones-stops in
    let n = c.list_cars-idle in
    let w = c.columns-w in
    let small = small_of b a.c p.0 in
    let known = survey b a.c p.0 _ _ _ stops-known m.result m.ensures n.result n.ensures in
    let x = sent a.columns.now a.u.now a.v.now in
    let cars-are = car_number s (limit_of b) small _ _ _ m.result n.result known w.result w.ensures in
    let columns-are = width s (limit_of b) small _ _ _ m.result n.result known w.result w.ensures in record {
      done = prices_refused s (limit_of b) x a.matrix.now cars-are columns-are (sym c.wrong_columns.ensures ∙ c.if-wrong_columns.false) (sym c.wrong_prices.ensures ∙ c.if-wrong_prices.true);
      length = refl;
    }

pub overflow_cast-most : goal.overflow_cast-most
unfolding limit_of
overflow_cast-most c = omega (arith, c.limit-most.ensures, field_lt c.args.s.now 48 16)

pub fill_matrix-requires : goal.fill_matrix-requires
unfolding sheet_of
fill_matrix-requires c =
    let a = c.args in
    let p = c.requires in
    let b = a.s.now in
    let s = sheet_of b a.c in
    let e = (accepted b a.c p.0).small in
    let seen = c.see_stops-masks.ensures in
    let stops-known = stops_seen s _ _ seen.ids.1 seen.points.1 seen.masks e.stops refl in
    let m = c.list_ones-stops in
    let n = c.list_cars-idle in
    let w = c.columns-w in
    let small = small_of b a.c p.0 in
    let known = survey b a.c p.0 _ _ _ stops-known m.result m.ensures n.result n.ensures in record {
      s_value = (p.0, seen.ids.0, seen.points.0, wide s (limit_of b) small _ _ _ m.result n.result known w.result w.ensures, narrow s (limit_of b) small _ _ _ m.result n.result known w.result w.ensures, p.1);
      survey = known;
    }

pub shows-least-requires : goal.shows-least-requires
unfolding sheet_of
shows-least-requires c =
    let a = c.args in
    let p = c.requires in
    let b = a.s.now in
    let s = sheet_of b a.c in
    let e = (accepted b a.c p.0).small in
    let seen = c.see_stops-masks.ensures in
    let stops-known = stops_seen s _ _ seen.ids.1 seen.points.1 seen.masks e.stops refl in
    let m = c.list_ones-stops in
    let n = c.list_cars-idle in
    let w = c.columns-w in
    let small = small_of b a.c p.0 in
    let known = survey b a.c p.0 _ _ _ stops-known m.result m.ensures n.result n.ensures in
    let x = sent a.columns.now a.u.now a.v.now in
    let cars-are = car_number s (limit_of b) small _ _ _ m.result n.result known w.result w.ensures in
    let columns-are = width s (limit_of b) small _ _ _ m.result n.result known w.result w.ensures in
    let f = c.fill_matrix in
    let rows = under s (limit_of b) c.limit-most.ensures f.ensures in
    let cells = cells_are s (limit_of b) small _ _ _ m.result n.result known w.result w.ensures a.matrix.now _ f.result rows in
    let columns-taken = sym c.wrong_columns.ensures ∙ c.if-wrong_columns.false in
    let prices-taken = sym c.wrong_prices.ensures ∙ c.if-wrong_prices.false in
    (priced s (limit_of b) x a.matrix.now cars-are columns-are columns-taken prices-taken _ cells small (omega (arith, f.ensures.size, p.1)), inside s (limit_of b) x a.matrix.now cars-are columns-are columns-taken prices-taken _ cells)

pub shape_of-matrix : goal.shape_of-matrix
shape_of-matrix c = c.fill_matrix.ensures.size

pub returns : goal.returns
unfolding sheet_of
returns c =
    let a = c.args in
    let p = c.requires in
    let b = a.s.now in
    let s = sheet_of b a.c in
    let e = (accepted b a.c p.0).small in
    let seen = c.see_stops-masks.ensures in
    let stops-known = stops_seen s _ _ seen.ids.1 seen.points.1 seen.masks e.stops refl in
    let m = c.list_ones-stops in
    let n = c.list_cars-idle in
    let w = c.columns-w in
    let small = small_of b a.c p.0 in
    let known = survey b a.c p.0 _ _ _ stops-known m.result m.ensures n.result n.ensures in
    let x = sent a.columns.now a.u.now a.v.now in
    let cars-are = car_number s (limit_of b) small _ _ _ m.result n.result known w.result w.ensures in
    let columns-are = width s (limit_of b) small _ _ _ m.result n.result known w.result w.ensures in
    let f = c.fill_matrix in
    let rows = under s (limit_of b) c.limit-most.ensures f.ensures in
    let cells = cells_are s (limit_of b) small _ _ _ m.result n.result known w.result w.ensures a.matrix.now _ f.result rows in
    let columns-taken = sym c.wrong_columns.ensures ∙ c.if-wrong_columns.false in
    let prices-taken = sym c.wrong_prices.ensures ∙ c.if-wrong_prices.false in record {
      done = is_judged s (limit_of b) x a.matrix.now cars-are columns-are columns-taken prices-taken _ cells c.answer.ensures c.shows-least.ensures;
      length = f.ensures.size;
    }
