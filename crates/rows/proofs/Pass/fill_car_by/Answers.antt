-- rows::Pass::fill_car_by meets its contract.
use Prim.Native.Nat.{ℕ}
use Rattle.components.specs.declared.Policy.{Policy}
use Rattle.components.specs.declared.Strategy.{Strategy}
use Rattle.layout.specs.Records.{sheet_of}
use Rattle.rows.specs.MatrixLaws.{dests_for, row_for, kept_size, ready_few, ready_below}
use Rattle.rows.specs.Gathered.{waiters_at}
use Rattle.rows.specs.RowLaws.{halts_for, halts_held}
use lib.ListN.{replicate, length-replicate}
use mathlib.Core.Path.{◌≡◌, refl, sym, ap, ◌∙◌}
use Rattle.dispatch.specs.declared.Row.{Row}
use native.Mathlib.Omega.{arith}
use Rattle.rows.proofs.Pass.fill_car_by.Goals as goal

pub row_for-of-requires : goal.row_for-of-requires
unfolding sheet_of
row_for-of-requires c =
    let p = c.requires.needs in
    let q = p.0.rows in record {
      small = (q.small, q.ids_size, q.xs_size, q.acar_size, q.adest_size, p.1, p.2);
      held = q.ready.held;
    }

pub fill_halts-requires : goal.fill_halts-requires
fill_halts-requires c =
    let p = c.requires.needs.0 in
    let n = c.args.self.now.known.of_sheet.1 in
    let few = p.rows.small.stops in (
      omega (arith, few, n),
      omega (arith, few, p.rows.xs_size, n),
      omega (arith, few, length-replicate {A = ℕ} 64 0, n),
      rw n p.counted,
    )

pub car_row-held-requires : goal.car_row-held-requires
unfolding sheet_of row_for
car_row-held-requires c =
    let a = c.args in
    let p = c.requires.needs.0 in
    let n = c.args.self.now.known.of_sheet.1 in
    let s = a.self.now in
    let k = s.known in
    let q = p.rows in
    let of = c.row_for-of.ensures in
    let row = c.row_for-of.result in
    let few = ready_few (sheet_of k.sheet.now k.counts) k.stops.ids.now k.stops.points.now k.aboard.cars.now k.aboard.destinations.now k.masks (waiters_at s.someone k.masks.calls s.sums.now) s.columns.now q.ready in
    let governed : k.policy.strategy ≡ row.policy.strategy =
    ap (λ (y : Policy). y.strategy) p.policy_is ∙ sym (ap (λ (r : Row). r.policy.strategy) of.row) in
    let held = halts_held row a.car.position.along k.masks.demand k.stops.points.now k.counts.stops (replicate 64 0)
    (omega (arith, q.small.stops, length-replicate {A = ℕ} 64 0))
    (ap (λ (r : Row). r.car.position.along) of.row) (ap (λ (r : Row). r.demand) of.row)
    ((rw n at c.fill_halts.ensures)
    ∙ ap (λ (z : Strategy). halts_for z a.car.position.along k.masks.demand k.stops.points.now k.counts.stops (replicate 64 0)) governed) in
    let below = ready_below (sheet_of k.sheet.now k.counts) k.stops.ids.now k.stops.points.now k.aboard.cars.now k.aboard.destinations.now k.masks
    (waiters_at s.someone k.masks.calls s.sums.now) s.columns.now q.ready in record {
      ranks = ((of.dests.1, of.sides.1), omega (arith, q.small.stops, n), omega (arith, q.small.stops, q.xs_size, n));
      columns = (q.fits, few, λ i l. omega (arith, below i l, n));
      held = (rw n held, q.sums_size);
    }

pub shape_of-row : goal.shape_of-row
shape_of-row c = c.car_row-held.ensures.cells.0

pub shape_of-dests : goal.shape_of-dests
shape_of-dests c = c.row_for-of.ensures.dests.0

pub shape_of-sides : goal.shape_of-sides
shape_of-sides c = c.row_for-of.ensures.sides.0

pub returns : goal.returns
unfolding sheet_of dests_for row_for
returns c =
    let a = c.args in
    let p = c.requires.needs.0 in
    let n = c.args.self.now.known.of_sheet.1 in
    let s = a.self.now in
    let k = s.known in
    let of = c.row_for-of in
    let filled = c.car_row-held.ensures in
    let sheet = sheet_of k.sheet.now k.counts in
    record {
      buffer = a.dests.now;
      aside = a.sides.now;
      row = (rw n at filled.cells.1) ∙ rw (of.ensures.dests.2, of.ensures.sides.2, of.ensures.row) refl;
      number = c.size.ensures ∙ kept_size sheet k.limit of.result.kept a.car p.rows.ready.held.few (ap (λ (r : Row). r.kept) of.ensures.row);
      held_cells_lem = (rw n at filled.held) ∙ rw (of.ensures.dests.2, of.ensures.sides.2, of.ensures.row) refl;
    }
