-- hungarian::least::solve meets its contract.
use Rattle.std.proofs.Common.{◌≡◌, ℕ, subst, arith}
use Rattle.alternating_tree.specs.State.{State, state_least}
use Rattle.hungarian.proofs.least.solve.Goals as goal

pub returns-clause-least : goal.returns-clause-least
returns-clause-least c =
    let s = c.args in
    let l = c.loop-i in
    let e : l.i ≡ s.m.rows = omega arith in
    state_least c.requires.matrix.0.wide (subst (λ (x : ℕ). State s.m.cells.now s.m.rows s.m.columns x l.prices.u l.prices.w l.pairs.row_of l.pairs.col_of) e l.invariant.1)
