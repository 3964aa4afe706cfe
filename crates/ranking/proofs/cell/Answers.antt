-- ranking::cell meets its contract.
use Rattle.assignment.specs.Cells.{rank_cell, rank_held}
use Rattle.ranking.specs.Ranking.{cell_by, held_by}
use native.Mathlib.Omega.{arith}
use mathlib.Core.Bool.{true, false}
use mathlib.Core.Path.{◌≡◌, sym, ap, ◌∙◌}
use Rattle.ranking.proofs.cell.Goals as goal

pub bounds-halts-j : goal.bounds-halts-j
bounds-halts-j c = let p = c.requires in omega (arith, p.1, p.2.size)

pub rank-requires : goal.rank-requires
rank-requires c =
    let s = c in
    let p = s.requires in
    (p.0, p.1, λ is. p.2.at is s.args.j p.1)

pub returns-then-has : goal.returns-then-has
unfolding cell_by held_by
returns-then-has c =
    let kept : c.has.result ≡ true = c.if-has.true in
    let is = sym c.has.ensures ∙ kept in (
      rw is (c.rank_cell.ensures.0 ∙ ap rank_cell c.rank.ensures),
      rw is (c.rank_cell.ensures.1 ∙ ap rank_held c.rank.ensures),
    )

pub returns-else-has : goal.returns-else-has
unfolding cell_by held_by
returns-else-has c =
    let cut : c.has.result ≡ false = c.if-has.false in
    let is = sym c.has.ensures ∙ cut in
    (rw is c.no_rank.ensures.0, rw is c.no_rank.ensures.1)
