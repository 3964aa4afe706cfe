-- hungarian::tree::begin meets its contract.
use Rattle.std.proofs.Common.{◌≡◌, ℕ, ◌+◌, ◌*◌, ◌<◌, length, refl, sym, ◌∙◌, set, length-set, arith}
use Rattle.hungarian.proofs.Best.{AllOut, best_here, best_kept, rank_most, nearest}
use Rattle.alternating_tree.specs.Lists.{at, at_same, at_other, below_set}
use Rattle.hungarian.proofs.tree.begin.Goals as goal
use Rattle.hungarian.proofs.tree.begin.Goals.{then-a-least, else-a-least}

pub loop-j-preserved : goal.loop-j-preserved
loop-j-preserved c =
    let g = c.args in
    let l = c.loop-j in
    let lj = c.loop-j-test.true in
    let cl = c.at in
    let rk = c.rank-a in
    let s = cl.result + at g.prices.now.w l.j in
    let room : l.j < length l.search.dist = omega (arith, l.invariant.1, lj, c.requires.cols_bound.0) in
    let here = at_same l.search.dist l.j s room in
    let small : s < 9223372036854775807 = omega (arith, cl.ensures, c.requires.by_index (g.i * g.m.columns + l.j), c.requires.by_index_2 l.j lj) in
    let ds = below_set (λ k v. v ≡ at g.m.cells.now (g.i * g.m.columns + k) + at g.prices.now.w k) l.search.dist l.j s room
    l.invariant.3 (omega (arith, cl.ensures)) in
    let fs = below_set (λ k v. v ≡ g.m.columns) l.search.from l.j g.m.columns (omega (arith, l.invariant.2, lj, c.requires.cols_bound.0)) l.invariant.4 refl in
    let same : (k : ℕ) → k < l.j → at (set l.search.dist l.j s) k ≡ at l.search.dist k = λ k lk. at_other l.search.dist l.j s k (λ q. omega arith) in
    elim c.if-a-least.branch [
      | then-a-least w ↦ rw (w.best-is, w.least-is) (
        omega arith,
        simp length-set l.invariant.1,
        simp length-set l.invariant.2,
        ds,
        fs,
        best_here AllOut g.m.rows l.search.dist (set l.search.dist l.j s) g.pairs.now.row_of l.best l.least l.j l.invariant.5 same rk.result refl
            (rw here (rk.ensures.free, rk.ensures.taken)) w.if-a-least.true,
        l.invariant.6,
      )
      | else-a-least w ↦ rw (w.best-is, w.least-is) (
        omega arith,
        simp length-set l.invariant.1,
        simp length-set l.invariant.2,
        ds,
        fs,
        best_kept AllOut g.m.rows l.search.dist (set l.search.dist l.j s) g.pairs.now.row_of l.best l.least l.j l.invariant.5 same
            (λ o. rw here (rank_most g.m.rows s (at g.pairs.now.row_of l.j) rk.result l.least (rk.ensures.free, rk.ensures.taken) w.if-a-least.false, small)),
        l.invariant.6,
      )
    ]

pub returns-clause-nearest : goal.returns-clause-nearest
returns-clause-nearest c =
    let g = c.args in
    let l = c.loop-j in
    let other : (k : ℕ) → k < g.m.columns → at (set l.search.dist g.m.columns 0) k ≡ at l.search.dist k = λ k lk. at_other l.search.dist g.m.columns 0 k (λ e. omega arith) in
    let all : l.j ≡ g.m.columns = omega arith in
    let near = λ (p : 0 < g.m.columns). nearest AllOut g.m.rows l.search.dist g.pairs.now.row_of l.best l.least g.m.columns (rw (sym all) l.invariant.5) 0 p refl in (
      (λ p. (near p).0),
      (λ k lk. let z = near (omega arith) in omega (arith, other l.best z.0, other k lk, z.2 k lk refl)),
    )

pub returns-clause-free_first : goal.returns-clause-free_first
returns-clause-free_first c =
    let g = c.args in
    let l = c.loop-j in
    let other : (k : ℕ) → k < g.m.columns → at (set l.search.dist g.m.columns 0) k ≡ at l.search.dist k = λ k lk. at_other l.search.dist g.m.columns 0 k (λ e. omega arith) in
    let all : l.j ≡ g.m.columns = omega arith in
    λ k lk e free.
    let z = nearest AllOut g.m.rows l.search.dist g.pairs.now.row_of l.best l.least g.m.columns (rw (sym all) l.invariant.5) 0 (omega arith) refl in
    z.3 k lk refl (sym (other k lk) ∙ e ∙ other l.best z.0) free
