-- rows::fill_rows meets its contract.
use Prim.Native.Nat.{ℕ, ◌≤◌, ◌<◌, ◌-◌, ◌+◌}
use Rattle.cars.specs.Cars.{held_at, held_next, four_size}
use Rattle.layout.specs.Records.{sheet_of}
use Rattle.rows.specs.MatrixLaws.{filling_start, filling_next, filled_at, kept_few, held_few, part_length}
use Rattle.rows.specs.Gathered.{waiters_at}
use Rattle.rows.specs.RowLaws.{table_held}
use lib.ListN.{length, get_or, replicate, length-replicate}
use mathlib.Core.Path.{◌≡◌, refl, sym}
use native.Mathlib.Omega.{arith}
use Rattle.rows.proofs.fill_rows.Goals as goal

pub fill_table-requires : goal.fill_table-requires
fill_table-requires c =
    let p = c.requires.rows_need in
    let n = c.args.known.now.of_sheet.1 in
    (omega (arith, p.small.stops, n), omega (arith, p.small.stops, p.xs_size, n), omega (arith, p.small.stops, length-replicate {A = ℕ} 64 0, n))

pub loop-r-init : goal.loop-r-init
loop-r-init c =
    let a = c.args in
    let k = a.known.now in
    (omega arith, filling_start (sheet_of k.sheet.now k.counts) k.limit a.columns a.matrix.now, refl, λ n. absurd (n refl))

pub overflow_add-e : goal.overflow_add-e
overflow_add-e c = let p = c.requires.rows in omega (arith, c.loop-r.invariant.1.near, p.1, p.0.few)

pub four_at-requires : goal.four_at-requires
unfolding sheet_of
four_at-requires c =
    let p = c.requires in
    let rows = p.rows.0 in
    (p.rows_need.small, omega (arith, rows.few), omega (arith, c.loop-r.invariant.0), λ k l. omega (arith, rows.car_of k l, rows.below k l))

pub offset_bounds-matrix-at : goal.offset_bounds-matrix-at
offset_bounds-matrix-at c = let p = c.requires.rows in let inv = c.loop-r.invariant in omega (arith, inv.1.near, inv.1.filled.size, p.1, p.2, p.0.few)

pub slice_bounds-fill_car_of-count : goal.slice_bounds-fill_car_of-count
slice_bounds-fill_car_of-count c = let p = c.requires.rows in let inv = c.loop-r.invariant in omega (arith, inv.1.near, inv.1.filled.size, p.1, p.2, p.0.few)

pub slice_bounds-fill_car_of-start : goal.slice_bounds-fill_car_of-start
slice_bounds-fill_car_of-start c = let p = c.requires.rows in let inv = c.loop-r.invariant in omega (arith, inv.1.near, inv.1.filled.size, p.1, p.2, p.0.few)

pub slice_bounds-fill_car_of-end : goal.slice_bounds-fill_car_of-end
slice_bounds-fill_car_of-end c = let p = c.requires.rows in let inv = c.loop-r.invariant in omega (arith, inv.1.near, inv.1.filled.size, p.1, p.2, p.0.few)

pub fill_car_of-counted-requires : goal.fill_car_of-counted-requires
unfolding sheet_of
fill_car_of-counted-requires c =
    let p = c.requires in
    let a = c.args in
    let k = a.known.now in
    let at-loop = c.loop-r in
    let q = p.rows_need in
    let governed = k.of_sheet.0 in
    let part = part_length at-loop.at a.columns at-loop.matrix (omega (arith, at-loop.invariant.1.near, at-loop.invariant.1.filled.size, p.rows.1, p.rows.2, p.rows.0.few)) in record {
      needs = (
        omega (arith, four_size (sheet_of k.sheet.now k.counts) a.idle.now at-loop.r at-loop.cars c.four_at.ensures at-loop.invariant.2),
        record {
          rows = record {
            small = q.small;
            ids_size = q.ids_size;
            xs_size = q.xs_size;
            acar_size = q.acar_size;
            adest_size = q.adest_size;
            sums_size = q.sums_size;
            fits = omega (arith, part, q.fits);
            ready = q.ready;
          };
          policy_is = governed;
          counted = table_held _ k.masks.demand k.stops.points.now k.counts.stops (replicate 64 0)
              (omega (arith, q.small.stops, length-replicate {A = ℕ} 64 0)) (rw k.of_sheet.1 at c.fill_table.ensures);
        },
      );
    }

pub overflow_add-ranked : goal.overflow_add-ranked
unfolding sheet_of
overflow_add-ranked c =
    let p = c.requires in
    let a = c.args in
    let k = a.known.now in
    let l = c.loop-r in
    let rows = p.rows.0 in
    let s = sheet_of k.sheet.now k.counts in
    let t : l.r < a.idle.now.count = c.loop-r-test.true in
    let i = get_or a.idle.now.at l.r 0 in
    let car = (held_at s a.idle.now l.r l.cars c.four_at.ensures l.invariant.3).each l.r refl t in
    let f = filled_at s k.stops.ids.now k.stops.points.now k.aboard.cars.now k.aboard.destinations.now k.masks (waiters_at a.someone k.masks.calls a.sums.now) a.pending.now p.rows_need.ready
    k.limit i _ _ _ _ car (omega (arith, rows.car_of l.r t, rows.below l.r t)) c.fill_car_of-counted.ensures in
    omega (arith, f.1, kept_few s k.limit i p.rows_need.small.stops, l.invariant.1.few, rows.few)

pub overflow_add-held : goal.overflow_add-held
unfolding sheet_of
overflow_add-held c =
    let p = c.requires in
    let a = c.args in
    let k = a.known.now in
    let l = c.loop-r in
    let rows = p.rows.0 in
    let s = sheet_of k.sheet.now k.counts in
    let t : l.r < a.idle.now.count = c.loop-r-test.true in
    let i = get_or a.idle.now.at l.r 0 in
    let car = (held_at s a.idle.now l.r l.cars c.four_at.ensures l.invariant.3).each l.r refl t in
    let f = filled_at s k.stops.ids.now k.stops.points.now k.aboard.cars.now k.aboard.destinations.now k.masks (waiters_at a.someone k.masks.calls a.sums.now) a.pending.now p.rows_need.ready
    k.limit i _ _ _ _ car (omega (arith, rows.car_of l.r t, rows.below l.r t)) c.fill_car_of-counted.ensures in
    omega (
      arith,
      f.0.held_cells_lem l.r (sym (rows.car_of l.r t)),
      held_few s k.limit l.r p.rows_need.small.stops,
      l.invariant.1.few_held,
      rows.few,
    )

pub loop-r-preserved : goal.loop-r-preserved
unfolding sheet_of
loop-r-preserved c =
    let p = c.requires in
    let a = c.args in
    let k = a.known.now in
    let l = c.loop-r in
    let rows = p.rows.0 in
    let s = sheet_of k.sheet.now k.counts in
    let t : l.r < a.idle.now.count = c.loop-r-test.true in
    let i = get_or a.idle.now.at l.r 0 in
    let room : l.at + a.columns ≤ length a.matrix.now = omega (arith, l.invariant.1.near, p.rows.1, p.rows.2, rows.few) in
    let four = held_at s a.idle.now l.r l.cars c.four_at.ensures l.invariant.3 in
    let f = filled_at s k.stops.ids.now k.stops.points.now k.aboard.cars.now k.aboard.destinations.now k.masks (waiters_at a.someone k.masks.calls a.sums.now) a.pending.now p.rows_need.ready
    k.limit i _ _ _ _ (four.each l.r refl t) (omega (arith, rows.car_of l.r t, rows.below l.r t)) c.fill_car_of-counted.ensures in (
      omega arith,
      filling_next s k.limit a.columns l.r l.at i l.ranked l.held (l.at + a.columns - l.at) _ _
          a.matrix.now l.matrix _ p.rows.1 p.rows_need.small.stops room l.invariant.1 (sym (rows.car_of l.r t)) (omega arith)
          (part_length l.at a.columns l.matrix (omega (arith, room, l.invariant.1.filled.size))) f.0 f.1,
      four_size s a.idle.now l.r l.cars c.four_at.ensures l.invariant.2,
      held_next s a.idle.now l.r _ four,
    )

pub shape_of-matrix : goal.shape_of-matrix
shape_of-matrix c = c.loop-r.invariant.1.filled.size

pub returns : goal.returns
returns c =
    let a = c.args in
    let k = a.known.now in
    let l = c.loop-r in
    let e : l.r ≡ a.idle.now.count = omega (arith, c.loop-r-test.false, l.invariant.0) in
    rw e at l.invariant.1.filled
