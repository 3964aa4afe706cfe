-- hungarian::tree::relax meets its contract.
use Rattle.std.proofs.Common.{◌≡◌, ◌∙◌, sym, List, ℕ, ◌+◌, ◌-◌, ◌*◌, refl, ap, inl, inr, arith}
use Rattle.hungarian.specs.declared.tree.Search.{Search}
use Rattle.hungarian.proofs.Best.{best_here, best_kept, rank_most}
use Rattle.hungarian.proofs.Lowers.{Out, step_keep, lowered}
use Rattle.alternating_tree.specs.Lists.{at}
use Rattle.hungarian.proofs.tree.relax.Goals as goal
use Rattle.hungarian.proofs.tree.relax.Goals.{then-search-j-eq0+then-k-least, then-s-search, else-s-search, then-search-j-eq0+else-k-least, else-search-j-eq0}

pub loop-j-preserved : goal.loop-j-preserved
loop-j-preserved c =
    let g = c.args in
    let l = c.loop-j in
    let lc = c.requires.cols_bound.0 in
    let lj = c.loop-j-test.true in
    let pj = c.requires.by_index_3 l.j lj in
    let small = c.requires.by_index_2 (g.r * g.m.columns + l.j) in
    elim c.if-search-j-eq0.branch [
      | then-search-j-eq0+then-k-least w ↦
          let y = lowered g.m.cells.now g.m.columns g.r (at g.prices.now.u g.r) g.col g.d g.prices.now.w l.search.seen g.search.now.dist g.search.now.from l.search.dist l.search.from
          l.j l.invariant.0 lj lc (w.at.result + at g.prices.now.w l.j - at g.prices.now.u g.r + g.d) w.if-s-search.search.dist w.if-s-search.search.from w.if-search-j-eq0.true
          (omega (arith, w.at.ensures, pj.1 (ap (λ (x : List ℕ). at x l.j) (sym l.invariant.1) ∙ w.if-search-j-eq0.true)))
          (omega (arith, w.at.ensures, pj.0, small, c.requires.cols_bound.2))
          (elim w.if-s-search.branch [ then-s-search v ↦ inl (v.if-s-search.true, ap (λ (x : Search). x.dist) v.search-is, ap (λ (x : Search). x.from) v.search-is) | else-s-search v ↦ inr (v.if-s-search.false, ap (λ (x : Search). x.dist) v.search-is, ap (λ (x : Search). x.from) v.search-is) ]) in
          let kept : w.if-s-search.search.seen ≡ l.search.seen =
          elim w.if-s-search.branch [ then-s-search v ↦ ap (λ (x : Search). x.seen) v.search-is | else-s-search v ↦ ap (λ (x : Search). x.seen) v.search-is ] in
          rw (w.search-is, kept, w.best-is, w.least-is) (
            y.0,
            l.invariant.1,
            best_here (Out l.search.seen) g.m.rows l.search.dist w.if-s-search.search.dist g.pairs.now.row_of l.best l.least l.j l.invariant.2 y.1 w.rank-k.result w.if-search-j-eq0.true
                (w.rank-k.ensures.free, w.rank-k.ensures.taken) w.if-k-least.true,
          )
      | then-search-j-eq0+else-k-least w ↦
          let y = lowered g.m.cells.now g.m.columns g.r (at g.prices.now.u g.r) g.col g.d g.prices.now.w l.search.seen g.search.now.dist g.search.now.from l.search.dist l.search.from
          l.j l.invariant.0 lj lc (w.at.result + at g.prices.now.w l.j - at g.prices.now.u g.r + g.d) w.if-s-search.search.dist w.if-s-search.search.from w.if-search-j-eq0.true
          (omega (arith, w.at.ensures, pj.1 (ap (λ (x : List ℕ). at x l.j) (sym l.invariant.1) ∙ w.if-search-j-eq0.true)))
          (omega (arith, w.at.ensures, pj.0, small, c.requires.cols_bound.2))
          (elim w.if-s-search.branch [ then-s-search v ↦ inl (v.if-s-search.true, ap (λ (x : Search). x.dist) v.search-is, ap (λ (x : Search). x.from) v.search-is) | else-s-search v ↦ inr (v.if-s-search.false, ap (λ (x : Search). x.dist) v.search-is, ap (λ (x : Search). x.from) v.search-is) ]) in
          let kept : w.if-s-search.search.seen ≡ l.search.seen =
          elim w.if-s-search.branch [ then-s-search v ↦ ap (λ (x : Search). x.seen) v.search-is | else-s-search v ↦ ap (λ (x : Search). x.seen) v.search-is ] in
          rw (w.search-is, kept, w.best-is, w.least-is) (
            y.0,
            l.invariant.1,
            best_kept (Out l.search.seen) g.m.rows l.search.dist w.if-s-search.search.dist g.pairs.now.row_of l.best l.least l.j l.invariant.2 y.1
                (λ o. (
                  rank_most g.m.rows (at w.if-s-search.search.dist l.j) (at g.pairs.now.row_of l.j) w.rank-k.result l.least
                      (w.rank-k.ensures.free, w.rank-k.ensures.taken) w.if-k-least.false,
                  y.2,
                )),
          )
      | else-search-j-eq0 w ↦
          rw (w.search-is, w.best-is, w.least-is) (
            step_keep g.m.cells.now g.m.columns g.r (at g.prices.now.u g.r) g.col g.d g.prices.now.w l.search.seen g.search.now.dist g.search.now.from
                l.search.dist l.search.from l.j l.invariant.0 lj lc (λ z. absurd (w.if-search-j-eq0.false z)),
            l.invariant.1,
            best_kept (Out l.search.seen) g.m.rows l.search.dist l.search.dist g.pairs.now.row_of l.best l.least l.j l.invariant.2 (λ k lk. refl)
                (λ z. absurd (w.if-search-j-eq0.false z)),
          )
    ]
