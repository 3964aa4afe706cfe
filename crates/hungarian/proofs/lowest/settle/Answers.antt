-- hungarian::lowest::settle meets its contract.
use Rattle.std.proofs.Common.{◌≡◌, ℕ, subst, arith}
use Rattle.assignment_problem.specs.Choice.{cell_at}
use Rattle.assignment_problem.proofs.Lowest.{lowest_tab}
use Rattle.alternating_tree.specs.Lists.{at}
use Rattle.equality_graph.specs.Settled.{Settled, settle_done}
use Rattle.hungarian.proofs.lowest.settle.Goals as goal

pub returns : goal.returns
returns c =
    let s = c.args in
    let l = c.loop-i in
    let e : l.i ≡ s.m.rows = omega arith in
    let st = subst (λ (z : ℕ). Settled s.m.cells.now s.m.rows s.m.columns z s.prices.now.u s.prices.now.w l.pairs.row_of l.pairs.col_of) e l.invariant.1 in
    lowest_tab (cell_at s.m.cells.now s.m.columns) s.m.rows s.m.columns c.requires.matrix.0.wide (at l.pairs.col_of) (settle_done st)
