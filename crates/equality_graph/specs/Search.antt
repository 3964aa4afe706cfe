-- A breadth-first search of the equality graph from row i at the stand, column m: a queue of the columns seen, of which the first h have been
-- looked from. Assumes nothing.
--   se x   0 where column x is not seen, otherwise 2 more than its place in the queue (1 at the stand)
--   fr x   the column from which x was seen: what it holds may go to x
--   top    above every column that was seen from the stand
use Rattle.std.specs.Prelude.{◌≡◌, refl, ℕ, zero, suc, ◌+◌, ◌≤◌, ◌<◌}
use Rattle.std.proofs.Common.{sym, ap, ◌∙◌, ⊎_elim, arith}
use Rattle.laws.specs.Bools.{same?}
use Rattle.assignment_problem.specs.Insertion.{Matched, Priced, May, Path, Walk}
use Rattle.equality_graph.specs.Unreachable.{Shut}

pub record Front (n m i h len top : ℕ) (c : ℕ → ℕ → ℕ) (ro u w se fr qu : ℕ → ℕ) : Type 0 where
  pub stand : se m ≡ 1
  pub order : h ≤ len
  pub rank : (x : ℕ) → x < m → 0 < se x → (1 < se x) × (se x ≤ suc len)
  pub place : (x : ℕ) → x < m → (p : ℕ) → suc (suc p) ≡ se x → qu p ≡ x
  pub member : (p : ℕ) → p < len → qu p < m
  pub member_rank : (p : ℕ) → p < len → se (qu p) ≡ suc (suc p)
  pub later : (x : ℕ) → x < m → 0 < se x → i ≤ ro x
  pub from : (x : ℕ) → x < m → 0 < se x → fr x ≤ m
  pub from_seen : (x : ℕ) → x < m → 0 < se x → 0 < se (fr x)
  pub earlier : (x : ℕ) → x < m → 0 < se x → se (fr x) < se x
  pub may : (x : ℕ) → x < m → 0 < se x → May n c u w (ro (fr x)) x
  pub roots : (x : ℕ) → x < m → 0 < se x → fr x ≡ m → x < top
  pub closed : (p : ℕ) → p < h → (y : ℕ) → y < m → se y ≡ 0 → i ≤ ro y → May n c u w (ro (qu p)) y → ⊥

-- nothing is seen but the stand
pub front_start : {n m i top : ℕ} {c : ℕ → ℕ → ℕ} {ro u w se fr qu : ℕ → ℕ} → se m ≡ 1 → ((x : ℕ) → x < m → se x ≡ 0)
    → Front n m i 0 0 top c ro u w se fr qu
front_start {n} {m} {i} {top} {c} {ro} {u} {w} {se} {fr} {qu} sm none =
    record {
      stand = sm;
      order = omega arith;
      rank = λ x lx p. absurd (no x lx p);
      place = λ x lx p e. absurd (no x lx (omega arith));
      member = λ p lp. absurd (omega arith);
      member_rank = λ p lp. absurd (omega arith);
      later = λ x lx p. absurd (no x lx p);
      from = λ x lx p. absurd (no x lx p);
      from_seen = λ x lx p. absurd (no x lx p);
      earlier = λ x lx p. absurd (no x lx p);
      may = λ x lx p. absurd (no x lx p);
      roots = λ x lx p. absurd (no x lx p);
      closed = λ p lp. absurd (omega arith);
    }
  where
    no : (x : ℕ) → x < m → 0 < se x → ⊥
    no x lx p = omega (arith, none x lx)

pub front_top : {n m i h len top : ℕ} {c : ℕ → ℕ → ℕ} {ro u w se fr qu : ℕ → ℕ} → Front n m i h len top c ro u w se fr qu
    → Front n m i h len (top + 1) c ro u w se fr qu
front_top f =
    record {
      stand = f.stand;
      order = f.order;
      rank = f.rank;
      place = f.place;
      member = f.member;
      member_rank = f.member_rank;
      later = f.later;
      from = f.from;
      from_seen = f.from_seen;
      earlier = f.earlier;
      may = f.may;
      roots = λ x lx p e. omega (arith, f.roots x lx p e);
      closed = f.closed;
    }

-- the next column of the queue has been looked from
pub front_next : {n m i h len top : ℕ} {c : ℕ → ℕ → ℕ} {ro u w se fr qu : ℕ → ℕ} → Front n m i h len top c ro u w se fr qu
    → h < len
    → ((y : ℕ) → y < m → se y ≡ 0 → i ≤ ro y → May n c u w (ro (qu h)) y → ⊥) → Front n m i (h + 1) len top c ro u w se fr qu
front_next {n} {m} {i} {h} {len} {top} {c} {ro} {u} {w} {se} {fr} {qu} f lh swept =
    record {
      stand = f.stand;
      order = omega arith;
      rank = f.rank;
      place = f.place;
      member = f.member;
      member_rank = f.member_rank;
      later = f.later;
      from = f.from;
      from_seen = f.from_seen;
      earlier = f.earlier;
      may = f.may;
      roots = f.roots;
      closed = λ p lp y ly o l ma. ⊎_elim
          (λ (e : p ≡ h). let a : qu p ≡ qu h = ap qu e in swept y ly o l (rw a at ma))
          (λ ne. f.closed p (omega arith) y ly o l ma)
          (same? p h);
    }

-- every column of the queue has been looked from, and k was not seen
pub front_shut : {n m i h len top : ℕ} {c : ℕ → ℕ → ℕ} {ro u w se fr qu : ℕ → ℕ} (k : ℕ)
    → Front n m i h len top c ro u w se fr qu → len ≤ h
    → se k ≡ 0 → Shut n m i k c ro u w se
front_shut {n} {m} {i} {h} {len} {top} {c} {ro} {u} {w} {se} {fr} {qu} k f le away =
    record {
      away = away;
      closed = λ x y lx ly s o l ma. go x y lx ly (se x) refl s o l ma;
    }
  where
    go : (x y : ℕ) → x < m → y < m → (s : ℕ) → se x ≡ s → 0 < s → se y ≡ 0 → i ≤ ro y → May n c u w (ro x) y → ⊥
    go x y lx ly zero e p o l ma = omega arith
    go x y lx ly (suc zero) e p o l ma = omega (arith, f.rank x lx (omega arith))
    go x y lx ly (suc (suc t)) e p o l ma =
        f.closed t (omega (arith, f.rank x lx (omega arith))) y ly o l (rw (f.place x lx t (sym e)) ma)

-- column x is seen from column y
module _ {n m i h len top : ℕ} {c : ℕ → ℕ → ℕ} {ro u w se fr qu : ℕ → ℕ} (f : Front n m i h len top c ro u w se fr qu)
    (y : ℕ) (ly : y ≤ m) (sy : 0 < se y) (ty : se y ≤ suc len)
    (x : ℕ) (lx : x < m) (out : se x ≡ 0) (lr : i ≤ ro x) (ma : May n c u w (ro y) x) (first : y ≡ m → x < top)
    (se' fr' qu' : ℕ → ℕ)
    (sx : se' x ≡ suc (suc len)) (so : (z : ℕ) → (z ≡ x → ⊥) → se' z ≡ se z)
    (ex : fr' x ≡ y) (eo : (z : ℕ) → (z ≡ x → ⊥) → fr' z ≡ fr z)
    (ql : qu' len ≡ x) (qo : (p : ℕ) → p < len → qu' p ≡ qu p) where
  -- what was seen is not x
  far : (z : ℕ) → 0 < se z → z ≡ x → ⊥
  far z p e = let a : se z ≡ se x = ap se e in omega arith

  kept : (z : ℕ) → 0 < se z → se' z ≡ se z
  kept z p = so z (far z p)

  was : (z : ℕ) → (z ≡ x → ⊥) → 0 < se' z → 0 < se z
  was z ne p = omega (arith, so z ne)

  pub front_push : Front n m i h (len + 1) top c ro u w se' fr' qu'
  front_push = record {
    stand = kept m (omega (arith, f.stand)) ∙ f.stand;
    order = omega (arith, f.order);
    rank = λ z lz p. ⊎_elim
        (λ (e : z ≡ x). let a : se' z ≡ se' x = ap se' e in (omega arith, omega arith))
        (λ ne. let a = f.rank z lz (was z ne p) in let b = so z ne in (omega arith, omega arith))
        (same? z x);
    place = λ z lz p e. ⊎_elim
        (λ (q : z ≡ x). let a : se' z ≡ se' x = ap se' q in let b : p ≡ len = omega arith in ap qu' b ∙ ql ∙ sym q)
        (λ ne.
        let a : se' z ≡ se z = so z ne in
        let b : p < len = omega (arith, f.rank z lz (omega arith)) in
        qo p b ∙ f.place z lz p (e ∙ a))
        (same? z x);
    member = λ p lp. ⊎_elim
        (λ (e : p ≡ len). let a : qu' p ≡ x = ap qu' e ∙ ql in omega arith)
        (λ ne. omega (arith, qo p (omega arith), f.member p (omega arith)))
        (same? p len);
    member_rank = λ p lp. ⊎_elim
        (λ (e : p ≡ len). ap se' (ap qu' e ∙ ql) ∙ sx ∙ ap (λ (t : ℕ). suc (suc t)) (sym e))
        (λ ne.
        let l : p < len = omega arith in
        ap se' (qo p l) ∙ kept (qu p) (omega (arith, f.member_rank p l)) ∙ f.member_rank p l)
        (same? p len);
    later = λ z lz p. ⊎_elim
        (λ (e : z ≡ x). let a : ro z ≡ ro x = ap ro e in omega arith)
        (λ ne. f.later z lz (was z ne p))
        (same? z x);
    from = λ z lz p. ⊎_elim
        (λ (e : z ≡ x). let a : fr' z ≡ y = ap fr' e ∙ ex in omega arith)
        (λ ne. omega (arith, eo z ne, f.from z lz (was z ne p)))
        (same? z x);
    from_seen = λ z lz p. ⊎_elim
        (λ (e : z ≡ x). let a : fr' z ≡ y = ap fr' e ∙ ex in rw a (omega (arith, kept y sy)))
        (λ ne.
        let q = f.from_seen z lz (was z ne p) in
        rw (eo z ne) (omega (arith, kept (fr z) q)))
        (same? z x);
    earlier = λ z lz p. ⊎_elim
        (λ (e : z ≡ x).
        let a : se' (fr' z) ≡ se y = ap se' (ap fr' e ∙ ex) ∙ kept y sy in
        let b : se' z ≡ se' x = ap se' e in omega arith)
        (λ ne.
        let q = f.from_seen z lz (was z ne p) in
        let a : se' (fr' z) ≡ se (fr z) = ap se' (eo z ne) ∙ kept (fr z) q in
        omega (arith, so z ne, f.earlier z lz (was z ne p)))
        (same? z x);
    may = λ z lz p. ⊎_elim
        (λ (e : z ≡ x). let a : fr' z ≡ y = ap fr' e ∙ ex in rw (a, e) ma)
        (λ ne. rw (eo z ne) (f.may z lz (was z ne p)))
        (same? z x);
    roots = λ z lz p e. ⊎_elim
        (λ (q : z ≡ x). let a : y ≡ m = sym (ap fr' q ∙ ex) ∙ e in omega (arith, first a))
        (λ ne. f.roots z lz (was z ne p) (sym (eo z ne) ∙ e))
        (same? z x);
    closed = λ p lp z lz o l m2. ⊎_elim
        (λ (e : z ≡ x). let a : se' z ≡ se' x = ap se' e in omega arith)
        (λ ne. f.closed p lp z lz (sym (so z ne) ∙ o) l (rw (qo p (omega (arith, f.order))) at m2))
        (same? z x);
  }

-- ---- k was seen: row i steps onto the stand, and an augmenting path leads from k back to it

module _ {n m i h len top : ℕ} {c : ℕ → ℕ → ℕ} {ro co u w se fr qu : ℕ → ℕ} (f : Front n m i h len top c ro u w se fr qu)
    (mt : Matched n m n ro co) (pr : Priced n m n c ro co u w) (li : i < n) (rm : ro m ≡ i) where
  pub front_path : Path n m i c ro u w se fr
  front_path = record {
    p_root = f.stand;
    p_stand = omega arith;
    p_from = f.from;
    p_seen = f.from_seen;
    p_earlier = f.earlier;
    p_later = λ x lx p. ⊎_elim
        (λ (e : fr x ≡ m). let a : ro (fr x) ≡ ro m = ap ro e in omega arith)
        (λ ne. f.later (fr x) (let a = f.from x lx p in omega arith) (f.from_seen x lx p))
        (same? (fr x) m);
    p_may = f.may;
  }

  -- row i is at the stand, and its column k is the hole
  pub front_walk : (ro₁ co₁ : ℕ → ℕ) → 0 < se (co i) → n ≤ ro₁ (co i) → ((x : ℕ) → (x ≡ co i → ⊥) → ro₁ x ≡ ro x)
      → co₁ i ≡ m → ((s : ℕ) → (s ≡ i → ⊥) → co₁ s ≡ co s) → Walk n m n i (co i) c ro co u w se fr ro₁ co₁
  front_walk ro₁ co₁ sk rk ro-same ci co-same = record {
    matched = record {
      back = λ r lr. ⊎_elim
          (λ (e : r ≡ i). let a : co₁ r ≡ m = ap co₁ e ∙ ci in omega arith)
          (λ ne. omega (arith, co-same r ne, mt.back r lr))
          (same? r i);
      back_row = λ r lr. ⊎_elim
          (λ (e : r ≡ i). ap ro₁ (ap co₁ e ∙ ci) ∙ at_stand ∙ sym e)
          (λ ne. ap ro₁ (co-same r ne) ∙ ro-same (co r) (λ e. ne (sym (mt.back_row r lr) ∙ ap ro e ∙ mt.back_row i li)) ∙ mt.back_row r lr)
          (same? r i);
      forth = λ j lj lr. lr;
      forth_col = λ j lj lr. ⊎_elim
          (λ (e : j ≡ m). ap co₁ (ap ro₁ e ∙ at_stand) ∙ ci ∙ sym e)
          (λ ne.
          let nk : j ≡ co i → ⊥ = λ q. let a : ro₁ j ≡ ro₁ (co i) = ap ro₁ q in omega arith in
          let a : ro₁ j ≡ ro j = ro-same j nk in
          let o : co (ro j) ≡ j = mt.forth_col j (omega arith) (omega arith) in
          ap co₁ a ∙ co-same (ro j) (λ e. nk (sym o ∙ ap co e)) ∙ o)
          (same? j m);
    };
    at = omega (arith, mt.back i li);
    seen = sk;
    free = rk;
    under = pr.under;
    tight = λ r lr lc. ⊎_elim
        (λ (e : r ≡ i). absurd (let a : co₁ r ≡ m = ap co₁ e ∙ ci in omega arith))
        (λ ne. rw (co-same r ne) (pr.tight r lr (mt.back r lr)))
        (same? r i);
    unused = λ j lj ne fj. pr.unused j lj (let a = ro-same j ne in omega arith);
    old = λ x lx lt. ro-same x (λ e. let a : se x ≡ se (co i) = ap se e in omega arith);
    fixed = λ s ls lk. co-same s (λ e. omega arith);
    landed = λ e. absurd (omega (arith, mt.back i li));
  }
    where
      at_stand : ro₁ m ≡ i
      at_stand = ro-same m (λ e. omega (arith, mt.back i li)) ∙ rm
