-- hungarian::tree::augment meets its contract.
use Rattle.std.proofs.Common.{◌≡◌, ℕ, ◌≤◌, ◌<◌, List, length, ⊎_elim, ap, ◌∙◌, set, length-set, arith}
use Rattle.laws.specs.Bools.{same?}
use Rattle.assignment_problem.specs.Insertion.{Path, Walk, walk_step}
use Rattle.alternating_tree.specs.Lists.{at, at_same, at_other, Stationed, Going, Gone}
use Rattle.hungarian.proofs.tree.augment.Goals as goal

module _ (ro₀ co₀ from seen : List ℕ) (n cols j : ℕ) (c64 : cols ≤ 64) (ro co : List ℕ) (hole : ℕ)
    (gone : Gone n cols seen from ro₀ co₀ j ro co hole) where
  -- the hole is not the stand yet
  before_stand : {k lo : ℕ} {c : ℕ → ℕ → ℕ} {ro0 co0 u w : ℕ → ℕ} → Path n cols lo c ro0 u w (at seen) (at from)
      → Walk n cols k lo hole c ro0 co0 u w (at seen) (at from) (at ro) (at co) → 1 < at seen hole → hole < cols
  before_stand pa wk far =
      ⊎_elim (λ e. absurd (let a : at seen hole ≡ at seen cols = ap (at seen) e in omega (arith, pa.p_root))) (λ ne. omega (arith, wk.at)) (same? hole cols)

  turn : 1 < at seen hole → (ro₁ co₁ : List ℕ) → at from hole < length ro₁ → Stationed n (at ro (at from hole)) hole ro co ro₁ co₁
      → Gone n cols seen from ro₀ co₀ j (set ro₁ (at from hole) n) co₁ (at from hole)
  turn far ro₁ co₁ room put k lo c ro0 co0 u w kn pa wk0 =
      let wk : Walk n cols k lo hole c ro0 co0 u w (at seen) (at from) (at ro) (at co) = gone k lo c ro0 co0 u w kn pa wk0 in
      let lh : hole < cols = before_stand pa wk far in
      let lt : at seen (at from hole) < at seen hole = pa.p_earlier hole lh wk.seen in
      let ne : hole ≡ at from hole → ⊥ = λ e. let a : at seen hole ≡ at seen (at from hole) = ap (at seen) e in omega arith in
      walk_step (at (set ro₁ (at from hole) n)) (at co₁) pa wk kn lh
      (let e = at_same ro₁ (at from hole) n room in omega arith)
      (at_other ro₁ (at from hole) n hole ne ∙ put.here)
      (λ y ly n0 n1. at_other ro₁ (at from hole) n y n1 ∙ put.others y n0)
      put.column
      (λ s ls n0. put.columns s n0)

  home : at seen hole ≤ 1 → Gone n cols seen from ro₀ co₀ j ro co cols
  home near k lo c ro0 co0 u w kn pa wk0 =
      let wk : Walk n cols k lo hole c ro0 co0 u w (at seen) (at from) (at ro) (at co) = gone k lo c ro0 co0 u w kn pa wk0 in
      ⊎_elim
      (λ e. rw e at wk)
      (λ ne. absurd (let lh : hole < cols = omega (arith, wk.at) in omega (arith, pa.p_earlier hole lh wk.seen, pa.p_seen hole lh wk.seen)))
      (same? hole cols)

  here : Going n cols seen from ro₀ co₀ j → hole ≤ 64
  here g = omega (arith, (gone g.rows g.lo g.c g.ro0 g.co0 g.u g.w g.few g.path g.walk).at)

  ahead : Going n cols seen from ro₀ co₀ j → 1 < at seen hole → (at from hole ≤ 64) × (at seen (at from hole) < at seen hole)
  ahead g far =
      let pa = g.path in
      let wk = gone g.rows g.lo g.c g.ro0 g.co0 g.u g.w g.few pa g.walk in
      let lh : hole < cols = before_stand pa wk far in
      (omega (arith, pa.p_from hole lh wk.seen), pa.p_earlier hole lh wk.seen)

pub offset_bounds-search-hole : goal.offset_bounds-search-hole
offset_bounds-search-hole c =
    let g = c.args in
    let p = c.requires.n_bound in
    let l = c.loop-hole in
    omega (arith, here g.pairs.now.row_of g.pairs.now.col_of g.search.now.from g.search.now.seen g.m.rows g.m.columns g.j p.1 l.pairs.row_of l.pairs.col_of l.hole l.invariant.2 p.2)

pub bounds-search-hole : goal.bounds-search-hole
bounds-search-hole c =
    let g = c.args in
    let p = c.requires.n_bound in
    let l = c.loop-hole in
    omega (arith, here g.pairs.now.row_of g.pairs.now.col_of g.search.now.from g.search.now.seen g.m.rows g.m.columns g.j p.1 l.pairs.row_of l.pairs.col_of l.hole l.invariant.2 p.2)

pub offset_bounds-pairs-next : goal.offset_bounds-pairs-next
offset_bounds-pairs-next c =
    let g = c.args in
    let p = c.requires.n_bound in
    let l = c.loop-hole in
    omega (arith, ahead g.pairs.now.row_of g.pairs.now.col_of g.search.now.from g.search.now.seen g.m.rows g.m.columns g.j p.1 l.pairs.row_of l.pairs.col_of l.hole l.invariant.2 p.2 c.loop-hole-test.true)

pub bounds-pairs-next : goal.bounds-pairs-next
bounds-pairs-next c =
    let g = c.args in
    let p = c.requires.n_bound in
    let l = c.loop-hole in
    omega (arith, ahead g.pairs.now.row_of g.pairs.now.col_of g.search.now.from g.search.now.seen g.m.rows g.m.columns g.j p.1 l.pairs.row_of l.pairs.col_of l.hole l.invariant.2 p.2 c.loop-hole-test.true)

pub offset_bounds-pairs-next-in-loop-hole : goal.offset_bounds-pairs-next-in-loop-hole
offset_bounds-pairs-next-in-loop-hole c =
    let g = c.args in
    let p = c.requires.n_bound in
    let l = c.loop-hole in
    omega (arith, ahead g.pairs.now.row_of g.pairs.now.col_of g.search.now.from g.search.now.seen g.m.rows g.m.columns g.j p.1 l.pairs.row_of l.pairs.col_of l.hole l.invariant.2 p.2 c.loop-hole-test.true)

pub bounds-pairs-next-in-loop-hole : goal.bounds-pairs-next-in-loop-hole
bounds-pairs-next-in-loop-hole c =
    let g = c.args in
    let p = c.requires.n_bound in
    let l = c.loop-hole in
    omega (arith, ahead g.pairs.now.row_of g.pairs.now.col_of g.search.now.from g.search.now.seen g.m.rows g.m.columns g.j p.1 l.pairs.row_of l.pairs.col_of l.hole l.invariant.2 p.2 c.loop-hole-test.true)

pub loop-hole-smaller : goal.loop-hole-smaller
loop-hole-smaller c =
    let g = c.args in
    let p = c.requires.n_bound in
    let l = c.loop-hole in
    (ahead g.pairs.now.row_of g.pairs.now.col_of g.search.now.from g.search.now.seen g.m.rows g.m.columns g.j p.1 l.pairs.row_of l.pairs.col_of l.hole l.invariant.2 p.2 c.loop-hole-test.true).1

pub loop-hole-preserved : goal.loop-hole-preserved
loop-hole-preserved c =
    let g = c.args in
    let p = c.requires.n_bound in
    let l = c.loop-hole in
    let z = c.put.ensures.sizes in (
      simp length-set z.0,
      z.1,
      turn g.pairs.now.row_of g.pairs.now.col_of g.search.now.from g.search.now.seen g.m.rows g.m.columns g.j p.1 l.pairs.row_of l.pairs.col_of l.hole l.invariant.2 c.loop-hole-test.true
          c.put.new.pairs.row_of c.put.new.pairs.col_of (omega (arith, ahead g.pairs.now.row_of g.pairs.now.col_of g.search.now.from g.search.now.seen g.m.rows g.m.columns g.j p.1 l.pairs.row_of l.pairs.col_of l.hole l.invariant.2 p.2 c.loop-hole-test.true)) c.put.ensures.stationed,
    )

pub returns : goal.returns
returns c =
    let g = c.args in
    let p = c.requires.n_bound in
    let l = c.loop-hole in
    home g.pairs.now.row_of g.pairs.now.col_of g.search.now.from g.search.now.seen g.m.rows g.m.columns g.j p.1 l.pairs.row_of l.pairs.col_of l.hole l.invariant.2 c.loop-hole-test.false
