-- hungarian::write meets its contract.
use Rattle.std.proofs.Common.{ℕ, ◌+◌, ◌*◌, refl, arith}
use Rattle.laws.specs.Folds.{ended}
use Rattle.laws.specs.Sums.{sum, sum_next}
use Rattle.laws.specs.Tables.{tab, tab_next}
use Rattle.assignment_problem.specs.Choice.{cell_at, total}
use Rattle.alternating_tree.specs.Lists.{at}
use Rattle.hungarian.proofs.write.Goals as goal

pub loop-i-init : goal.loop-i-init
unfolding sum tab
loop-i-init c = (omega arith, refl, omega arith, refl)

pub loop-i-preserved : goal.loop-i-preserved
loop-i-preserved c =
    let g = c.args in
    let m = c.requires.matrix in
    let l = c.loop-i in
    let iv = l.invariant in (
      omega arith,
      omega (arith, iv.1, c.at-total.ensures, sum_next l.i (λ k. cell_at g.m.cells.now g.m.columns k (at g.col_of.now k))),
      omega (arith, iv.2, c.at-total.ensures, m.0.small (l.i * g.m.columns + at g.col_of.now l.i)),
      tab_next (at g.col_of.now) g.places.now l.places l.i (at g.col_of.now l.i) (omega (arith, c.loop-i-test.true, m.1)) iv.3 refl,
    )

pub returns-clause-total : goal.returns-clause-total
unfolding total
returns-clause-total c =
    let g = c.args in
    let iv = c.loop-i.invariant in
    ended (λ (x : ℕ). sum x (λ k. cell_at g.m.cells.now g.m.columns k (at g.col_of.now k))) iv.0 c.loop-i-test.false iv.1
