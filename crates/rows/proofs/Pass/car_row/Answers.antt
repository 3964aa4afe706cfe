-- rows::Pass::car_row meets its contract.
use Rattle.rows.specs.Gathered.{waiters_at}
use Rattle.rows.specs.RowLaws.{row_cell, whole_row}
use mathlib.Core.Path.{◌∙◌}
use native.Mathlib.Omega.{arith}
use Rattle.rows.proofs.Pass.car_row.Goals as goal

pub fill_row-held-requires : goal.fill_row-held-requires
fill_row-held-requires c = c.requires

pub fill_spare-requires : goal.fill_spare-requires
fill_spare-requires c = let p = c.requires in omega (arith, p.columns.0, c.fill_row-held.ensures.cells.0)

pub shape_of-out : goal.shape_of-out
shape_of-out c = c.fill_spare.ensures.size ∙ c.fill_row-held.ensures.cells.0

pub returns : goal.returns
returns c =
    let a = c.args in
    let s = a.self.now in
    let filled = c.fill_row-held.ensures in record {
      cells = (
        c.fill_spare.ensures.size ∙ filled.cells.0,
        whole_row (row_cell a.row.now a.dests.now.along.now a.dests.now.across.now (waiters_at s.someone s.known.masks.calls s.sums.now) s.known.stops.points.now s.known.stops.count s.columns.now) s.columns.now.count a.out.now filled.cells.0
            filled.cells.1 c.fill_spare.ensures,
      );
      held = filled.held;
    }
