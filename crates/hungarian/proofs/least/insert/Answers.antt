-- hungarian::least::insert meets its contract.
use Rattle.std.proofs.Common.{◌≡◌, ℕ, ◌+◌, ◌≤◌, ◌<◌, List, refl, sym, ap, ◌∙◌, ⊎_elim, set, arith}
use Rattle.laws.specs.Bools.{same?}
use Rattle.laws.specs.Tables.{row_in}
use Rattle.alternating_tree.specs.Lists.{at, at_same, at_other, gain, gain_in, gain_out}
use Rattle.alternating_tree.specs.State.{Growing, Cleared, unseen_less, unseen_most, u_low, w_low, co_low, d_low, grown}
use Rattle.alternating_tree.specs.State.{join_under, joined, inside_free, going, ended}
use Rattle.hungarian.proofs.least.insert.Goals as goal

-- the first column is free: nothing is in the tree but it and the stand, where row i is, so the price of row i alone gains
module _ {cells : List ℕ} {n cols i t f d : ℕ} {u w ro co di fr se : List ℕ} (gr : Growing cells n cols i t f d u w ro co di fr se) (li : i < n)
    (cl : Cleared cols se) (ci : at co i ≡ cols) (j : ℕ) (lj : j < cols) (fj : n ≤ at ro j) (se' : List ℕ) (e : at se' j ≡ 2)
    (ne : (x : ℕ) → (x ≡ j → ⊥) → at se' x ≡ at se x) where
  row_gains : gain (at se' (at co i)) (at di j) (at di (at co i)) ≡ at di j
  row_gains = rw ci (
      let one = ne cols (λ q. omega arith) ∙ cl.stand in
      omega (arith, gain_in (at se' cols) (at di j) (at di cols) (omega (arith, one)), gr.home)
      )

  rows_stay : (r : ℕ) → r < i → gain (at se' (at co r)) (at di j) (at di (at co r)) ≡ 0
  rows_stay r lr =
      let own = gr.matched.back_row r (omega arith) in
      let inner : at co r < cols = ⊎_elim
      (λ (q : at co r ≡ cols). absurd (let same : at ro (at co r) ≡ at ro (at co i) = ap (at ro) (q ∙ sym ci) in
      omega (arith, own, same, gr.matched.back_row i (omega arith), lr)))
      (λ q. omega (arith, gr.matched.back r (omega arith), q))
      (same? (at co r) cols) in
      gain_out (at se' (at co r)) (at di j) (at di (at co r))
      (ne (at co r) (λ q. let same : at ro (at co r) ≡ at ro j = ap (at ro) q in omega (arith, own, same, fj, lr, li)) ∙ cl.zeros (at co r) inner)

  columns_stay : (x : ℕ) → x < cols → gain (at se' x) (at di j) (at di x) ≡ 0
  columns_stay x lx = ⊎_elim
      (λ (q : x ≡ j). rw q (omega (arith, gain_in (at se' j) (at di j) (at di j) (omega (arith, e)))))
      (λ q. gain_out (at se' x) (at di j) (at di x) (ne x q ∙ cl.zeros x lx))
      (same? x j)

pub loop-search-init : goal.loop-search-init
loop-search-init c =
    let p = c.prepare-j in (
      p.ensures.size,
      (p.ensures.growing.0, record { d = 0; growing = p.ensures.growing.1 }),
      omega (arith, unseen_most c.args.m.columns p.new.search.seen),
      p.ensures.nearest,
      (λ e. p.ensures.alone),
    )

pub raise-requires : goal.raise-requires
raise-requires c =
    let m = c.requires.matrix in
    let mx = m.0 in
    let li = m.1 in
    let l = c.loop-search in
    let iv = l.invariant in
    let near = iv.3 in
    let j = l.j in
    let g0 = iv.1.1.growing in
    let gr = grown mx li g0 j near in
    let lj = near.below in
    let out = near.outside in
    let t : ℕ = l.t + 1 in
    let se : List ℕ = set l.search.seen j t in
    let e : at se j ≡ t = at_same l.search.seen j t (omega (arith, iv.0, lj, mx.cols64)) in
    let ne : (x : ℕ) → (x ≡ j → ⊥) → at se x ≡ at l.search.seen x = λ (x : ℕ) (q : x ≡ j → ⊥). at_other l.search.seen j t x q in
    let fj = c.if-m-r.true in
    let alone : t ≡ 2 → Cleared c.args.m.columns l.search.seen × (at l.pairs.col_of c.args.i ≡ c.args.m.columns) = λ q. iv.4 (omega (arith, q)) in
    record {
      i_bound = (omega (arith, li, mx.rows32), mx.cols64, d_low mx li g0 j near);
      by_index = λ r h. (omega (arith, co_low mx li g0 r h, mx.cols64), u_low mx li g0 r h);
      by_index_2 = λ r h p. inside_free mx li gr j lj out refl fj se e ne (at l.pairs.col_of r) (co_low mx li g0 r h) p;
      by_index_3 = λ x h. (w_low mx li g0 x h, (λ p. inside_free mx li gr j lj out refl fj se e ne x (omega arith) p));
      i_value = λ q. let o = alone q in row_gains g0 li o.0 o.1 j lj fj se (e ∙ q) ne;
      r_value = λ q. let o = alone q in rows_stay g0 li o.0 o.1 j lj fj se (e ∙ q) ne;
      j_value = λ q. let o = alone q in columns_stay g0 li o.0 o.1 j lj fj se (e ∙ q) ne;
    }

pub augment-requires : goal.augment-requires
augment-requires c =
    let m = c.requires.matrix in
    let mx = m.0 in
    let li = m.1 in
    let l = c.loop-search in
    let iv = l.invariant in
    let near = iv.3 in
    let j = l.j in
    let g0 = iv.1.1.growing in
    let gr = grown mx li g0 j near in
    let lj = near.below in
    let out = near.outside in
    let t : ℕ = l.t + 1 in
    let se : List ℕ = set l.search.seen j t in
    let e : at se j ≡ t = at_same l.search.seen j t (omega (arith, iv.0, lj, mx.cols64)) in
    let ne : (x : ℕ) → (x ≡ j → ⊥) → at se x ≡ at l.search.seen x = λ (x : ℕ) (q : x ≡ j → ⊥). at_other l.search.seen j t x q in
    let fj = c.if-m-r.true in
    record { n_bound = (mx.rows32, mx.cols64, going mx li gr j lj out refl fj se e ne) }

pub returns-then-m-r : goal.returns-then-m-r
returns-then-m-r c =
    let m = c.requires.matrix in
    let mx = m.0 in
    let li = m.1 in
    let l = c.loop-search in
    let iv = l.invariant in
    let near = iv.3 in
    let j = l.j in
    let g0 = iv.1.1.growing in
    let gr = grown mx li g0 j near in
    let lj = near.below in
    let out = near.outside in
    let t : ℕ = l.t + 1 in
    let se : List ℕ = set l.search.seen j t in
    let e : at se j ≡ t = at_same l.search.seen j t (omega (arith, iv.0, lj, mx.cols64)) in
    let ne : (x : ℕ) → (x ≡ j → ⊥) → at se x ≡ at l.search.seen x = λ (x : ℕ) (q : x ≡ j → ⊥). at_other l.search.seen j t x q in
    let fj = c.if-m-r.true in
    ended mx li gr j lj out refl fj se e ne c.raise.new.prices.u c.raise.new.prices.w c.augment.new.pairs.row_of c.augment.new.pairs.col_of c.raise.ensures.rows c.raise.ensures.columns c.augment.ensures

pub join-j-requires-clause-cols_bound : goal.join-j-requires-clause-cols_bound
join-j-requires-clause-cols_bound c =
    let m = c.requires.matrix in
    let mx = m.0 in
    let li = m.1 in
    let l = c.loop-search in
    let iv = l.invariant in
    let near = iv.3 in
    let j = l.j in
    let g0 = iv.1.1.growing in
    (mx.cols64, omega (arith, row_in (at l.pairs.row_of j) c.args.m.rows c.args.m.columns c.if-m-r.false, mx.whole), near.below, omega arith, d_low mx li g0 j near, omega (arith, mx.rows32))

pub join-j-requires-clause-by_index_3 : goal.join-j-requires-clause-by_index_3
join-j-requires-clause-by_index_3 c =
    let m = c.requires.matrix in
    let mx = m.0 in
    let li = m.1 in
    let l = c.loop-search in
    let iv = l.invariant in
    let near = iv.3 in
    let j = l.j in
    let g0 = iv.1.1.growing in
    let gr = grown mx li g0 j near in
    let lj = near.below in
    let out = near.outside in
    λ x h. (w_low mx li g0 x h, (λ o. join_under mx li gr j lj out refl c.if-m-r.false x h o))

pub loop-search-smaller : goal.loop-search-smaller
loop-search-smaller c =
    let l = c.loop-search in
    let near = l.invariant.3 in
    let v = c.join-j in
    unseen_less c.args.m.columns l.search.seen v.new.search.seen l.j near.below near.outside (omega (arith, v.ensures.joined.turned)) v.ensures.joined.others

pub loop-search-preserved : goal.loop-search-preserved
loop-search-preserved c =
    let m = c.requires.matrix in
    let mx = m.0 in
    let li = m.1 in
    let l = c.loop-search in
    let iv = l.invariant in
    let near = iv.3 in
    let j = l.j in
    let g0 = iv.1.1.growing in
    let gr = grown mx li g0 j near in
    let lj = near.below in
    let out = near.outside in
    let v = c.join-j in (
      v.ensures.size,
      (iv.1.0, record { d = at l.search.dist j; growing = joined mx li gr j lj out refl c.if-m-r.false v.new.search.seen v.new.search.dist v.new.search.from v.ensures.joined }),
      omega (arith, iv.2, unseen_less c.args.m.columns l.search.seen v.new.search.seen j lj out (omega (arith, v.ensures.joined.turned)) v.ensures.joined.others),
      v.ensures.nearest,
      (λ q. absurd (omega (arith, q, g0.tree.root, g0.tree.turn c.args.m.columns (omega arith)))),
    )
