-- hungarian::choose meets its contract.
use Rattle.std.proofs.Common.{◌≡◌, ℕ, ◌<◌, ◌∙◌, replicate, get_or, arith}
use lib.ListN.{get_or-replicate}
use Rattle.assignment_problem.specs.Choice.{cell_at}
use Rattle.assignment_problem.proofs.Lowest.{tab_within, tab-total}
use Rattle.alternating_tree.specs.Lists.{at}
use Rattle.hungarian.proofs.choose.Goals as goal

pub solve-requires : goal.solve-requires
solve-requires c =
    let zeros : (v j : ℕ) → j < c.args.cols → get_or (replicate 65 v) j 0 ≡ v = λ v j lj. get_or-replicate 65 j v 0 (omega (arith, c.requires.0.cols64)) in
    record { matrix = (c.requires.0, (λ j lj. (zeros c.args.n j lj, zeros 0 j lj))) }

pub write-requires-clause-by_index : goal.write-requires-clause-by_index
write-requires-clause-by_index c =
    let g = c.args in
    tab_within (cell_at g.cells.now g.cols) g.n g.cols c.requires.0.wide (at c.settle.new.pairs.col_of) c.settle.ensures

pub returns-clause-total : goal.returns-clause-total
returns-clause-total c =
    let g = c.args in
    c.write.ensures.total ∙ tab-total (cell_at g.cells.now g.cols) g.n g.cols c.requires.0.wide (at c.settle.new.pairs.col_of) c.settle.ensures
