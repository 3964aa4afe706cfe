-- bench::send meets its contract.
use Rattle.accepted.specs.Accepted.{accepted}
use Rattle.bench.specs.Passing.{small_of, survey, under, prefix_length, car_number, stop_number, narrow, wide, fits, cells_are}
use Rattle.bench.specs.Passing.{kept_are, held_is, can_decide, total_is, decisions_are, answered}
use Rattle.layout.specs.Records.{sheet_of, limit_of}
use Rattle.outcome.specs.KeptPairs.{ranked_kept}
use mathlib.Core.Path.{refl, ◌∙◌}
use native.Mathlib.Omega.{arith}
use Rattle.bench.proofs.send.Goals as goal

pub list_cars-idle-requires : goal.list_cars-idle-requires
list_cars-idle-requires c = let a = c.args in (accepted a.s.now a.c c.requires.0).small

pub fill_matrix-counted-requires : goal.fill_matrix-counted-requires
fill_matrix-counted-requires c =
    let a = c.args in
    let p = c.requires in
    let b = a.s.now in
    let s = sheet_of b a.c in
    let m = c.list_ones-stops in
    let n = c.list_cars-idle in
    let w = c.columns-w in
    let small = small_of b a.c p.0 in
    let seen = survey b a.c p.0 a.ids.now a.xs.now a.masks p.5 m.result m.ensures n.result n.ensures in record {
      s_value = (p.0, p.1, p.2, wide s (limit_of b) small a.ids.now a.xs.now a.masks m.result n.result seen w.result w.ensures, narrow s (limit_of b) small a.ids.now a.xs.now a.masks m.result n.result seen w.result w.ensures, p.4);
      survey = seen;
    }

pub overflow_mul-e : goal.overflow_mul-e
overflow_mul-e c =
    let a = c.args in
    let p = c.requires in
    let b = a.s.now in
    let s = sheet_of b a.c in
    let m = c.list_ones-stops in
    let n = c.list_cars-idle in
    let w = c.columns-w in
    let small = small_of b a.c p.0 in
    let seen = survey b a.c p.0 a.ids.now a.xs.now a.masks p.5 m.result m.ensures n.result n.ensures in
    omega (arith, fits s (limit_of b) small a.ids.now a.xs.now a.masks m.result n.result seen w.result w.ensures)

pub slice_bounds-decide-end : goal.slice_bounds-decide-end
slice_bounds-decide-end c =
    let a = c.args in
    let p = c.requires in
    let b = a.s.now in
    let s = sheet_of b a.c in
    let m = c.list_ones-stops in
    let n = c.list_cars-idle in
    let w = c.columns-w in
    let small = small_of b a.c p.0 in
    let seen = survey b a.c p.0 a.ids.now a.xs.now a.masks p.5 m.result m.ensures n.result n.ensures in
    omega (arith, fits s (limit_of b) small a.ids.now a.xs.now a.masks m.result n.result seen w.result w.ensures, c.fill_matrix-counted.ensures.size, p.4)

pub slice_bounds-decide-end-2 : goal.slice_bounds-decide-end-2
slice_bounds-decide-end-2 c =
    let a = c.args in
    let p = c.requires in
    let b = a.s.now in
    let s = sheet_of b a.c in
    let m = c.list_ones-stops in
    let n = c.list_cars-idle in
    let w = c.columns-w in
    let small = small_of b a.c p.0 in
    let seen = survey b a.c p.0 a.ids.now a.xs.now a.masks p.5 m.result m.ensures n.result n.ensures in
    prefix_length _ _ (omega (arith, fits s (limit_of b) small a.ids.now a.xs.now a.masks m.result n.result seen w.result w.ensures, c.fill_matrix-counted.ensures.size, p.4))

pub decide-total-requires : goal.decide-total-requires
decide-total-requires c =
    let a = c.args in
    let p = c.requires in
    let b = a.s.now in
    let s = sheet_of b a.c in
    let m = c.list_ones-stops in
    let n = c.list_cars-idle in
    let w = c.columns-w in
    let small = small_of b a.c p.0 in
    let seen = survey b a.c p.0 a.ids.now a.xs.now a.masks p.5 m.result m.ensures n.result n.ensures in
    let f = c.fill_matrix-counted in
    let rows = under s (limit_of b) c.limit-most.ensures f.ensures in
    can_decide s (limit_of b) small a.ids.now a.xs.now a.masks m.result n.result seen w.result w.ensures a.matrix.now _ f.result rows _ refl _ p.1 p.3

pub shape_of-decisions : goal.shape_of-decisions
shape_of-decisions c = c.decide-total.ensures.1

pub shape_of-matrix : goal.shape_of-matrix
shape_of-matrix c = c.fill_matrix-counted.ensures.size

pub returns : goal.returns
returns c =
    let a = c.args in
    let p = c.requires in
    let b = a.s.now in
    let s = sheet_of b a.c in
    let m = c.list_ones-stops in
    let n = c.list_cars-idle in
    let w = c.columns-w in
    let small = small_of b a.c p.0 in
    let seen = survey b a.c p.0 a.ids.now a.xs.now a.masks p.5 m.result m.ensures n.result n.ensures in
    let f = c.fill_matrix-counted in
    let rows = under s (limit_of b) c.limit-most.ensures f.ensures in
    let d = c.decide-total in
    let ranked = kept_are s (limit_of b) small a.ids.now a.xs.now a.masks m.result n.result seen w.result w.ensures a.matrix.now _ f.result rows ∙ ranked_kept b a.c p.0 (limit_of b) in
    let held = held_is s (limit_of b) small a.ids.now a.xs.now a.masks m.result n.result seen w.result w.ensures a.matrix.now _ f.result rows in
    let total = total_is s (limit_of b) small a.ids.now a.xs.now a.masks m.result n.result seen w.result w.ensures a.matrix.now _ f.result rows _ refl d.result d.ensures.0 in record {
      answer = answered s (limit_of b) n.result.count m.result.count d.result f.result.ranked f.result.held refl (car_number s (limit_of b) small a.ids.now a.xs.now a.masks m.result n.result seen w.result w.ensures) (stop_number s (limit_of b) small a.ids.now a.xs.now a.masks m.result n.result seen w.result w.ensures) total ranked held;
      decisions = (d.ensures.1, decisions_are s (limit_of b) small a.ids.now a.xs.now a.masks m.result n.result seen w.result w.ensures a.matrix.now _ f.result rows _ refl a.decisions.now _ d.ensures.2);
      matrix = (f.ensures.size, cells_are s (limit_of b) small a.ids.now a.xs.now a.masks m.result n.result seen w.result w.ensures a.matrix.now _ f.result rows);
    }
