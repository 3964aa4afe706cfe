-- One row more in a matching with prices, over functions: what each step of an insertion keeps. There are n rows in all and m columns;
-- column m is a stand for the row that has no column yet.
--   ro j, co r   the row of column j (n or more: the column is free), the column of row r
--   u r, w j     the price of row r, the discount of column j
--   se j         0 where column j is outside the alternating tree, otherwise its turn
--   sl j, fr j   the slack of column j, and the tree column whose row has that slack
-- Assumes nothing.
use Rattle.std.specs.Prelude.{◌≡◌, refl, cond, ◌⊎◌, ℕ, suc, ◌+◌, ◌-◌, ◌≤◌, ◌<◌, eqb}
use Rattle.std.proofs.Common.{sym, ap, ◌∙◌, ⊎_elim, arith, eq-eqb, ne_eqb}
use Rattle.laws.specs.Bools.{same?, less?}
use Rattle.laws.specs.Sums.{sum_one}
use Rattle.assignment_problem.specs.Choice.{IsChoice}
use Rattle.assignment_problem.specs.Along.{along_eq}
use Rattle.assignment_problem.specs.Prices.{Tight}

-- the first k rows have a column each, below m, and the rows that columns below m have are those
pub record Matched (n m k : ℕ) (ro co : ℕ → ℕ) : Type 0 where
  pub back : (r : ℕ) → r < k → co r < m
  pub back_row : (r : ℕ) → r < k → ro (co r) ≡ r
  pub forth : (j : ℕ) → j < m → ro j < n → ro j < k
  pub forth_col : (j : ℕ) → j < m → ro j < n → co (ro j) ≡ j

-- prices that no cell undercuts, tight where a row has its column, and no discount at a free column
pub record Priced (n m k : ℕ) (c : ℕ → ℕ → ℕ) (ro co u w : ℕ → ℕ) : Type 0 where
  pub under : (r j : ℕ) → r < k → j < m → u r ≤ c r j + w j
  pub tight : (r : ℕ) → r < k → co r < m → u r ≡ c r (co r) + w (co r)
  pub unused : (j : ℕ) → j < m → n ≤ ro j → w j ≡ 0

-- the alternating tree over t turns: each of its columns but the stand was reached by a tight cell of an earlier one's row; each column outside
-- has the least slack of the tree's rows
pub record Tree (n m t : ℕ) (c : ℕ → ℕ → ℕ) (ro u w se sl fr : ℕ → ℕ) : Type 0 where
  pub root : se m ≡ 1
  pub owned : (j : ℕ) → j ≤ m → 0 < se j → ro j < n
  pub turn : (j : ℕ) → j ≤ m → se j ≤ t
  pub from : (j : ℕ) → j < m → fr j ≤ m
  pub from_seen : (j : ℕ) → j < m → 0 < se (fr j)
  pub link : (j : ℕ) → j < m → sl j + u (ro (fr j)) ≡ c (ro (fr j)) j + w j
  pub seen_zero : (j : ℕ) → j < m → 0 < se j → sl j ≡ 0
  pub earlier : (j : ℕ) → j < m → 0 < se j → se (fr j) < se j
  pub slack_le : (j x : ℕ) → j < m → se j ≡ 0 → x ≤ m → 0 < se x → sl j + u (ro x) ≤ c (ro x) j + w j

-- ---- a choice and its prices, at the end

pub matched_choice : {n m : ℕ} {ro co : ℕ → ℕ} → Matched n m n ro co → IsChoice n m co
matched_choice {n} {m} {ro} {co} h =
    record {
      within = h.back;
      distinct = λ a b la lb e. sym (h.back_row a la) ∙ ap ro e ∙ h.back_row b lb;
    }

pub priced_tight : {n m : ℕ} {c : ℕ → ℕ → ℕ} {ro co u w : ℕ → ℕ} → Matched n m n ro co → Priced n m n c ro co u w
    → Tight n m c co u w
priced_tight {n} {m} {c} {ro} {co} h f =
    record {
      tight = λ i l. f.tight i l (h.back i l);
      unused = λ j l no-k. ⊎_elim (λ lt. absurd (no-k (ro j) lt (h.forth_col j l lt))) (λ ge. f.unused j l ge) (less? (ro j) n);
    }

-- ---- a row goes from its column to a free one

pub move : {n m k : ℕ} {ro co : ℕ → ℕ} (h : Matched n m k ro co) (j0 j1 : ℕ) (ro' co' : ℕ → ℕ)
    → k ≤ n → j0 < m → n ≤ ro j0 → j1 < m → ro j1 < n
    → n ≤ ro' j1 → ro' j0 ≡ ro j1 → ((x : ℕ) → x < m → (x ≡ j0 → ⊥) → (x ≡ j1 → ⊥) → ro' x ≡ ro x)
    → co' (ro j1) ≡ j0 → ((s : ℕ) → s < k → (s ≡ ro j1 → ⊥) → co' s ≡ co s)
    → Matched n m k ro' co'
move {n} {m} {k} {ro} {co} h j0 j1 ro' co' kn l0 f0 l1 f1 r1 r0 rx c0 cx = record { back = b; back_row = br; forth = f; forth_col = fc }
  where
    not0 : (s : ℕ) → s < k → co s ≡ j0 → ⊥
    not0 s ls e = let a : ro j0 ≡ s = ap ro (sym e) ∙ h.back_row s ls in omega arith

    not1 : (s : ℕ) → s < k → (s ≡ ro j1 → ⊥) → co s ≡ j1 → ⊥
    not1 s ls ne e = ne (sym (h.back_row s ls) ∙ ap ro e)

    b : (s : ℕ) → s < k → co' s < m
    b s ls = ⊎_elim
        (λ e. let a : co' s ≡ j0 = ap co' e ∙ c0 in omega arith)
        (λ ne. omega (arith, cx s ls ne, h.back s ls))
        (same? s (ro j1))

    br : (s : ℕ) → s < k → ro' (co' s) ≡ s
    br s ls = ⊎_elim
        (λ e. ap ro' (ap co' e ∙ c0) ∙ r0 ∙ sym e)
        (λ ne. ap ro' (cx s ls ne) ∙ rx (co s) (h.back s ls) (not0 s ls) (not1 s ls ne) ∙ h.back_row s ls)
        (same? s (ro j1))

    f : (x : ℕ) → x < m → ro' x < n → ro' x < k
    f x lx lr = ⊎_elim
        (λ e0. let a : ro' x ≡ ro j1 = ap ro' e0 ∙ r0 in omega (arith, h.forth j1 l1 f1))
        (λ n0. ⊎_elim
        (λ e1. absurd (let a : ro' x ≡ ro' j1 = ap ro' e1 in omega arith))
        (λ n1. let a : ro' x ≡ ro x = rx x lx n0 n1 in omega (arith, h.forth x lx (omega arith)))
        (same? x j1))
        (same? x j0)

    fc : (x : ℕ) → x < m → ro' x < n → co' (ro' x) ≡ x
    fc x lx lr = ⊎_elim
        (λ e0. ap co' (ap ro' e0 ∙ r0) ∙ c0 ∙ sym e0)
        (λ n0. ⊎_elim
        (λ e1. absurd (let a : ro' x ≡ ro' j1 = ap ro' e1 in omega arith))
        (λ n1.
        let a : ro' x ≡ ro x = rx x lx n0 n1 in
        let l : ro x < n = omega arith in
        ap co' a ∙ cx (ro x) (h.forth x lx l) (λ e. n1 (sym (h.forth_col x lx l) ∙ ap co e ∙ h.forth_col j1 l1 f1)) ∙ h.forth_col x lx l)
        (same? x j1))
        (same? x j0)

-- ---- the prices of the tree go up by d, at most every slack outside it

-- d at a column of the tree
abbrev pub lift : ℕ → ℕ → ℕ
lift s d = cond (eqb s 0) 0 d

pub lift_out : (s d : ℕ) → s ≡ 0 → lift s d ≡ 0
lift_out s d e = rw (eq-eqb s 0 e)

pub lift_in : (s d : ℕ) → 0 < s → lift s d ≡ d
lift_in s d l = rw (ne_eqb s 0 (λ e. omega arith))

module _ {n m k t : ℕ} {c : ℕ → ℕ → ℕ} {ro co u w se sl fr : ℕ → ℕ} (d : ℕ) (u' w' sl' : ℕ → ℕ)
    (h : Matched n (suc m) k ro co) (g : Priced n m k c ro co u w) (tr : Tree n m t c ro u w se sl fr)
    (small : (j : ℕ) → j < m → se j ≡ 0 → d ≤ sl j)
    (du : (r : ℕ) → r < k → u' r ≡ u r + lift (se (co r)) d)
    (dw : (j : ℕ) → j < m → w' j ≡ w j + lift (se j) d)
    (ds_in : (j : ℕ) → j < m → 0 < se j → sl' j ≡ sl j)
    (ds_out : (j : ℕ) → j < m → se j ≡ 0 → sl' j ≡ sl j - d) where
  -- a tree column's row goes up
  row_up : (x : ℕ) → x ≤ m → 0 < se x → u' (ro x) ≡ u (ro x) + d
  row_up x lx sx =
      let lr : ro x < n = tr.owned x lx sx in
      let e : se (co (ro x)) ≡ se x = ap se (h.forth_col x (omega arith) lr) in
      omega (arith, du (ro x) (h.forth x (omega arith) lr), lift_in (se (co (ro x))) d (omega arith))

  pub lift_priced : Priced n m k c ro co u' w'
  lift_priced = record { under = un; tight = ti; unused = us }
    where
      un : (r j : ℕ) → r < k → j < m → u' r ≤ c r j + w' j
      un r j lr lj = ⊎_elim
          (λ out. omega (arith, du r lr, lift_out (se (co r)) d out, dw j lj, g.under r j lr lj))
          (λ in-r. ⊎_elim
          (λ jo.
          let e : u (ro (co r)) ≡ u r = ap u (h.back_row r lr) in
          let e2 : c (ro (co r)) j ≡ c r j = ap (λ (x : ℕ). c x j) (h.back_row r lr) in
          omega (
            arith,
            du r lr,
            lift_in (se (co r)) d (omega arith),
            dw j lj,
            lift_out (se j) d jo,
            small j lj jo,
            tr.slack_le j (co r) lj jo (let b = h.back r lr in omega arith) (omega arith),
          ))
          (λ jn. omega (arith, du r lr, lift_in (se (co r)) d (omega arith), dw j lj, lift_in (se j) d (omega arith), g.under r j lr lj))
          (same? (se j) 0))
          (same? (se (co r)) 0)

      ti : (r : ℕ) → r < k → co r < m → u' r ≡ c r (co r) + w' (co r)
      ti r lr lc = omega (arith, du r lr, dw (co r) lc, g.tight r lr lc)

      us : (j : ℕ) → j < m → n ≤ ro j → w' j ≡ 0
      us j lj fj = ⊎_elim
          (λ out. omega (arith, dw j lj, lift_out (se j) d out, g.unused j lj fj))
          (λ ne. absurd (let o = tr.owned j (omega arith) (omega arith) in omega arith))
          (same? (se j) 0)

  pub lift_tree : Tree n m t c ro u' w' se sl' fr
  lift_tree = record {
    root = tr.root;
    owned = tr.owned;
    turn = tr.turn;
    from = tr.from;
    from_seen = tr.from_seen;
    earlier = tr.earlier;
    link = li;
    seen_zero = λ j lj sj. ds_in j lj sj ∙ tr.seen_zero j lj sj;
    slack_le = le;
  }
    where
      li : (j : ℕ) → j < m → sl' j + u' (ro (fr j)) ≡ c (ro (fr j)) j + w' j
      li j lj =
          let up = row_up (fr j) (tr.from j lj) (tr.from_seen j lj) in
          ⊎_elim
          (λ out. omega (arith, up, tr.link j lj, ds_out j lj out, small j lj out, dw j lj, lift_out (se j) d out))
          (λ ne. omega (arith, up, tr.link j lj, ds_in j lj (omega arith), dw j lj, lift_in (se j) d (omega arith)))
          (same? (se j) 0)

      le : (j x : ℕ) → j < m → se j ≡ 0 → x ≤ m → 0 < se x → sl' j + u' (ro x) ≤ c (ro x) j + w' j
      le j x lj out lx sx =
          omega (arith, row_up x lx sx, tr.slack_le j x lj out lx sx, ds_out j lj out, small j lj out, dw j lj)

-- ---- an owned column of slack 0 joins the tree, and the slacks outside it are lowered to those of its row

abbrev pub Relaxed : (j1 ur cj wj s f s' f' : ℕ) → Type 0
Relaxed j1 ur cj wj s f s' f' =
    ((s' ≡ s) × (f' ≡ f) × (s + ur ≤ cj + wj)) ⊎ ((f' ≡ j1) × (s' ≤ s) × (s' + ur ≡ cj + wj))

module _ {n m t : ℕ} {c : ℕ → ℕ → ℕ} {ro u w se sl fr : ℕ → ℕ} (j1 : ℕ) (se' sl' fr' : ℕ → ℕ)
    (tr : Tree n m t c ro u w se sl fr) (l1 : j1 < m) (out1 : se j1 ≡ 0) (zero1 : sl j1 ≡ 0) (own1 : ro j1 < n)
    (s1 : se' j1 ≡ suc t) (sx : (x : ℕ) → x ≤ m → (x ≡ j1 → ⊥) → se' x ≡ se x)
    (kept : (j : ℕ) → j < m → 0 < se' j → (sl' j ≡ sl j) × (fr' j ≡ fr j))
    (relaxed : (j : ℕ) → j < m → se' j ≡ 0 → Relaxed j1 (u (ro j1)) (c (ro j1) j) (w j) (sl j) (fr j) (sl' j) (fr' j)) where
  grow : (x : ℕ) → x ≤ m → 0 < se x → 0 < se' x
  grow x lx p = ⊎_elim (λ e. absurd (let a : se x ≡ se j1 = ap se e in omega arith)) (λ ne. omega (arith, sx x lx ne)) (same? x j1)

  is_one : (x : ℕ) → x ≡ j1 → 0 < se' x
  is_one x e = let a : se' x ≡ se' j1 = ap se' e in omega arith

  not-one : (x : ℕ) → 0 < se x → x ≡ j1 → ⊥
  not-one x p e = let a : se x ≡ se j1 = ap se e in omega arith

  pub mark : Tree n m (suc t) c ro u w se' sl' fr'
  mark = record {
    root = sx m (omega arith) (λ e. omega arith) ∙ tr.root;
    owned = ow;
    turn = tu;
    from = fo;
    from_seen = fs;
    link = li;
    seen_zero = sz;
    earlier = ea;
    slack_le = le;
  }
    where
      ow : (j : ℕ) → j ≤ m → 0 < se' j → ro j < n
      ow j lj p = ⊎_elim
          (λ e. let a : ro j ≡ ro j1 = ap ro e in omega arith)
          (λ ne. tr.owned j lj (let a = sx j lj ne in omega arith))
          (same? j j1)

      tu : (j : ℕ) → j ≤ m → se' j ≤ suc t
      tu j lj = ⊎_elim
          (λ e. let a : se' j ≡ se' j1 = ap se' e in omega arith)
          (λ ne. omega (arith, sx j lj ne, tr.turn j lj))
          (same? j j1)

      fo : (j : ℕ) → j < m → fr' j ≤ m
      fo j lj = ⊎_elim
          (λ out. ⊎_elim (λ x. omega (arith, tr.from j lj)) (λ x. omega arith) (relaxed j lj out))
          (λ ne. omega (arith, (kept j lj (omega arith)).1, tr.from j lj))
          (same? (se' j) 0)

      old_seen : (j : ℕ) → j < m → fr' j ≡ fr j → 0 < se' (fr' j)
      old_seen j lj e = rw e (grow (fr j) (tr.from j lj) (tr.from_seen j lj))

      fs : (j : ℕ) → j < m → 0 < se' (fr' j)
      fs j lj = ⊎_elim
          (λ out. ⊎_elim (λ x. old_seen j lj x.1) (λ x. is_one (fr' j) x.0) (relaxed j lj out))
          (λ ne. old_seen j lj (kept j lj (omega arith)).1)
          (same? (se' j) 0)

      old_link : (j : ℕ) → j < m → sl' j ≡ sl j → fr' j ≡ fr j → sl' j + u (ro (fr' j)) ≡ c (ro (fr' j)) j + w j
      old_link j lj a e = rw (e, a) (tr.link j lj)

      li : (j : ℕ) → j < m → sl' j + u (ro (fr' j)) ≡ c (ro (fr' j)) j + w j
      li j lj = ⊎_elim
          (λ out. ⊎_elim (λ x. old_link j lj x.0 x.1) (λ x. rw x.0 x.2) (relaxed j lj out))
          (λ ne. old_link j lj (kept j lj (omega arith)).0 (kept j lj (omega arith)).1)
          (same? (se' j) 0)

      sz : (j : ℕ) → j < m → 0 < se' j → sl' j ≡ 0
      sz j lj p = (kept j lj p).0 ∙ ⊎_elim
          (λ e. ap sl e ∙ zero1)
          (λ ne. tr.seen_zero j lj (let a = sx j (omega arith) ne in omega arith))
          (same? j j1)

      ea : (j : ℕ) → j < m → 0 < se' j → se' (fr' j) < se' j
      ea j lj p =
          let e : fr' j ≡ fr j = (kept j lj p).1 in
          let fs0 : 0 < se (fr j) = tr.from_seen j lj in
          let old : se' (fr' j) ≡ se (fr j) = ap se' e ∙ sx (fr j) (tr.from j lj) (not-one (fr j) fs0) in
          ⊎_elim
          (λ q. let a : se' j ≡ se' j1 = ap se' q in omega (arith, old, tr.turn (fr j) (tr.from j lj)))
          (λ ne. let a : se' j ≡ se j = sx j (omega arith) ne in omega (arith, old, tr.earlier j lj (omega arith)))
          (same? j j1)

      le : (j x : ℕ) → j < m → se' j ≡ 0 → x ≤ m → 0 < se' x → sl' j + u (ro x) ≤ c (ro x) j + w j
      le j x lj out lx p = ⊎_elim
          (λ e. rw e (⊎_elim (λ y. omega arith) (λ y. omega arith) (relaxed j lj out)))
          (λ ne.
          let b : se' x ≡ se x = sx x lx ne in
          let nj : j ≡ j1 → ⊥ = λ q. let a : se' j ≡ se' j1 = ap se' q in omega arith in
          let o : se j ≡ 0 = sym (sx j (omega arith) nj) ∙ out in
          let s = tr.slack_le j x lj o lx (omega arith) in
          ⊎_elim (λ y. omega arith) (λ y. omega arith) (relaxed j lj out))
          (same? x j1)

-- ---- a new row begins, at the stand

pub start_matched : {n m k : ℕ} {ro co : ℕ → ℕ} (ro' co' : ℕ → ℕ) → Matched n m k ro co → k < n
    → ro' m ≡ k → ((x : ℕ) → x < m → ro' x ≡ ro x) → co' k ≡ m → ((s : ℕ) → s < k → co' s ≡ co s) → Matched n (suc m) (suc k) ro' co'
start_matched {n} {m} {k} {ro} {co} ro' co' h kn rm rx ck cx = record { back = b; back_row = br; forth = f; forth_col = fc }
  where
    b : (r : ℕ) → r < suc k → co' r < suc m
    b r lr = ⊎_elim (λ e. let a : co' r ≡ co' k = ap co' e in omega arith) (λ ne. omega (arith, cx r (omega arith), h.back r (omega arith)))
        (same? r k)

    br : (r : ℕ) → r < suc k → ro' (co' r) ≡ r
    br r lr = ⊎_elim
        (λ e. ap ro' (ap co' e ∙ ck) ∙ rm ∙ sym e)
        (λ ne. let l : r < k = omega arith in ap ro' (cx r l) ∙ rx (co r) (h.back r l) ∙ h.back_row r l)
        (same? r k)

    f : (j : ℕ) → j < suc m → ro' j < n → ro' j < suc k
    f j lj lr = ⊎_elim
        (λ e. let a : ro' j ≡ ro' m = ap ro' e in omega arith)
        (λ ne. let a : ro' j ≡ ro j = rx j (omega arith) in omega (arith, h.forth j (omega arith) (omega arith)))
        (same? j m)

    fc : (j : ℕ) → j < suc m → ro' j < n → co' (ro' j) ≡ j
    fc j lj lr = ⊎_elim
        (λ e. ap co' (ap ro' e ∙ rm) ∙ ck ∙ sym e)
        (λ ne. let a : ro' j ≡ ro j = rx j (omega arith) in
        ap co' a ∙ cx (ro j) (h.forth j (omega arith) (omega arith)) ∙ h.forth_col j (omega arith) (omega arith))
        (same? j m)

pub start_priced : {n m k : ℕ} {c : ℕ → ℕ → ℕ} {ro co u w : ℕ → ℕ} (ro' co' u' : ℕ → ℕ) → Priced n m k c ro co u w
    → ((x : ℕ) → x < m → ro' x ≡ ro x) → co' k ≡ m → ((s : ℕ) → s < k → co' s ≡ co s) → u' k ≡ 0 → ((s : ℕ) → s < k → u' s ≡ u s)
    → Priced n m (suc k) c ro' co' u' w
start_priced {n} {m} {k} {c} {ro} {co} {u} {w} ro' co' u' g rx ck cx uk ux =
    record {
      under = λ r j lr lj. ⊎_elim
          (λ e. let a : u' r ≡ u' k = ap u' e in omega arith)
          (λ ne. omega (arith, ux r (omega arith), g.under r j (omega arith) lj))
          (same? r k);
      tight = λ r lr lc. ⊎_elim
          (λ e. absurd (let a : co' r ≡ co' k = ap co' e in omega arith))
          (λ ne.
          let l : r < k = omega arith in
          let e : co' r ≡ co r = cx r l in
          rw e (ux r l ∙ g.tight r l (omega arith)))
          (same? r k);
      unused = λ j lj fj. g.unused j lj (let a = rx j lj in omega arith);
    }

pub start_tree : (n m k : ℕ) (c : ℕ → ℕ → ℕ) (ro u w se sl fr : ℕ → ℕ) → k < n → ro m ≡ k → se m ≡ 1
    → ((j : ℕ) → j < m → se j ≡ 0)
    → ((j : ℕ) → j < m → fr j ≡ m) → ((j : ℕ) → j < m → sl j + u k ≡ c k j + w j) → Tree n m 1 c ro u w se sl fr
start_tree n m k c ro u w se sl fr kn rm sm sx fm sj =
    record {
      root = sm;
      owned = λ j lj p. let a : ro j ≡ ro m = ap ro (is_m j lj p) in omega arith;
      turn = λ j lj. ⊎_elim (λ e. let a : se j ≡ se m = ap se e in omega arith) (λ ne. omega (arith, sx j (omega arith))) (same? j m);
      from = λ j lj. omega (arith, fm j lj);
      from_seen = λ j lj. rw (fm j lj) (omega arith);
      link = λ j lj. rw (fm j lj, rm) (sj j lj);
      seen_zero = λ j lj p. absurd (let a = sx j lj in omega arith);
      earlier = λ j lj p. absurd (let a = sx j lj in omega arith);
      slack_le = λ j x lj out lx p. rw (is_m x lx p, rm) (omega (arith, sj j lj));
    }
  where
    is_m : (x : ℕ) → x ≤ m → 0 < se x → x ≡ m
    is_m x lx p = ⊎_elim (λ e. e) (λ ne. absurd (let a = sx x (omega arith) in omega arith)) (same? x m)

-- ---- along an alternating path from a free column to the stand: each row moves to the hole before it

-- In the equality graph what a column holds, the row r or nothing, may go to column y: the row is tight there, or the column needs no row.
pub record May (n : ℕ) (c : ℕ → ℕ → ℕ) (u w : ℕ → ℕ) (r y : ℕ) : Type 0 where
  pub row : r < n → u r ≡ c r y + w y
  pub none : n ≤ r → w y ≡ 0

-- the columns seen form a tree in the equality graph, over the rows ro0, whose root is the stand; no row before lo is in it
pub record Path (n m lo : ℕ) (c : ℕ → ℕ → ℕ) (ro0 u w se fr : ℕ → ℕ) : Type 0 where
  pub p_root : se m ≡ 1
  pub p_stand : ro0 m < n
  pub p_from : (j : ℕ) → j < m → 0 < se j → fr j ≤ m
  pub p_seen : (j : ℕ) → j < m → 0 < se j → 0 < se (fr j)
  pub p_earlier : (j : ℕ) → j < m → 0 < se j → se (fr j) < se j
  pub p_later : (j : ℕ) → j < m → 0 < se j → lo ≤ ro0 (fr j)
  pub p_may : (j : ℕ) → j < m → 0 < se j → May n c u w (ro0 (fr j)) j

-- the rows behind the hole have moved: all is matched and tight but for the hole
pub record Walk (n m k lo hole : ℕ) (c : ℕ → ℕ → ℕ) (ro0 co0 u w se fr ro co : ℕ → ℕ) : Type 0 where
  pub matched : Matched n (suc m) k ro co
  pub at : hole ≤ m
  pub seen : 0 < se hole
  pub free : n ≤ ro hole
  pub under : (r j : ℕ) → r < k → j < m → u r ≤ c r j + w j
  pub tight : (r : ℕ) → r < k → co r < m → u r ≡ c r (co r) + w (co r)
  pub unused : (j : ℕ) → j < m → (j ≡ hole → ⊥) → n ≤ ro j → w j ≡ 0
  pub old : (x : ℕ) → x ≤ m → se x < se hole → ro x ≡ ro0 x
  pub fixed : (s : ℕ) → s < lo → s < k → co s ≡ co0 s
  -- the stand's row is at a column that was seen from the stand
  pub landed : hole ≡ m → (co (ro0 m) < m) × (0 < se (co (ro0 m))) × (fr (co (ro0 m)) ≡ m)

-- where two columns are free before and after, the matching is as it was
stay : {n m k : ℕ} {ro co : ℕ → ℕ} (h : Matched n m k ro co) (j0 j1 : ℕ) (ro' co' : ℕ → ℕ) → k ≤ n
    → n ≤ ro j0 → n ≤ ro j1 → n ≤ ro' j0 → n ≤ ro' j1
    → ((x : ℕ) → x < m → (x ≡ j0 → ⊥) → (x ≡ j1 → ⊥) → ro' x ≡ ro x) → ((s : ℕ) → s < k → co' s ≡ co s) → Matched n m k ro' co'
stay {n} {m} {k} {ro} {co} h j0 j1 ro' co' kn f0 f1 g0 g1 rx cx =
    record {
      back = λ s ls. omega (arith, cx s ls, h.back s ls);
      back_row = λ s ls. ap ro' (cx s ls)
          ∙ rx (co s) (h.back s ls) (λ e. let a : ro (co s) ≡ ro j0 = ap ro e in omega (arith, h.back_row s ls))
          (λ e. let a : ro (co s) ≡ ro j1 = ap ro e in omega (arith, h.back_row s ls)) ∙ h.back_row s ls;
      forth = λ x lx lr. let a = same x lx lr in omega (arith, h.forth x lx (omega arith));
      forth_col = λ x lx lr.
          let a : ro' x ≡ ro x = same x lx lr in
          let l : ro x < n = omega arith in
          ap co' a ∙ cx (ro x) (h.forth x lx l) ∙ h.forth_col x lx l;
    }
  where
    same : (x : ℕ) → x < m → ro' x < n → ro' x ≡ ro x
    same x lx lr = rx x lx (λ e. let a : ro' x ≡ ro' j0 = ap ro' e in omega arith) (λ e. let a : ro' x ≡ ro' j1 = ap ro' e in omega arith)

-- what the column fr j0 holds goes to the hole j0
pub walk_step : {n m k lo j0 : ℕ} {c : ℕ → ℕ → ℕ} {ro0 co0 u w se fr ro co : ℕ → ℕ} (ro' co' : ℕ → ℕ)
    → Path n m lo c ro0 u w se fr → Walk n m k lo j0 c ro0 co0 u w se fr ro co → k ≤ n → j0 < m
    → n ≤ ro' (fr j0) → ro' j0 ≡ ro (fr j0) → ((x : ℕ) → x ≤ m → (x ≡ j0 → ⊥) → (x ≡ fr j0 → ⊥) → ro' x ≡ ro x)
    → (ro (fr j0) < n → co' (ro (fr j0)) ≡ j0) → ((s : ℕ) → s < k → (s ≡ ro (fr j0) → ⊥) → co' s ≡ co s)
    → Walk n m k lo (fr j0) c ro0 co0 u w se fr ro' co'
walk_step {n} {m} {k} {lo} {j0} {c} {ro0} {co0} {u} {w} {se} {fr} {ro} {co} ro' co' pa wk kn l0 r1 r0 rx c0 cx =
    record {
      matched = ⊎_elim
          (λ own. move wk.matched j0 j1 ro' co' kn (omega arith) wk.free (omega (arith, a1)) own r1 r0
          (λ x lx n0 n1. rx x (omega arith) n0 n1) (c0 own) cx)
          (λ none. stay wk.matched j0 j1 ro' co' kn wk.free none (omega arith) r1
          (λ x lx n0 n1. rx x (omega arith) n0 n1) (λ s ls. cx s ls (λ e. omega arith)))
          (less? (ro (fr j0)) n);
      at = a1;
      seen = pa.p_seen j0 l0 wk.seen;
      free = r1;
      under = wk.under;
      tight = ti;
      unused = us;
      old = λ x lx lt. rx x lx (λ e. let a : se x ≡ se j0 = ap se e in omega (arith, e1)) (λ e. let a : se x ≡ se j1 = ap se e in omega arith)
          ∙ wk.old x lx (omega (arith, e1));
      fixed = λ s ls lk. cx s lk (λ e. omega (arith, o1, pa.p_later j0 l0 wk.seen)) ∙ wk.fixed s ls lk;
      landed = λ e.
          let a : ro (fr j0) ≡ ro0 m = o1 ∙ ap ro0 e in
          let b : co' (ro0 m) ≡ j0 = ap co' (sym a) ∙ c0 (omega (arith, pa.p_stand)) in
          (omega arith, rw b wk.seen, rw b e);
    }
  where
    j1 : ℕ
    j1 = fr j0

    a1 : fr j0 ≤ m
    a1 = pa.p_from j0 l0 wk.seen

    e1 : se (fr j0) < se j0
    e1 = pa.p_earlier j0 l0 wk.seen

    o1 : ro (fr j0) ≡ ro0 (fr j0)
    o1 = wk.old (fr j0) a1 e1

    ti : (r : ℕ) → r < k → co' r < m → u r ≡ c r (co' r) + w (co' r)
    ti r lr lc = ⊎_elim
        (λ (e : r ≡ ro (fr j0)).
        let a : co' r ≡ j0 = ap co' e ∙ c0 (omega arith) in
        let b : r ≡ ro0 (fr j0) = e ∙ o1 in
        rw (a, b) ((pa.p_may j0 l0 wk.seen).row (omega arith)))
        (λ ne.
        let a : co' r ≡ co r = cx r lr ne in
        rw a (wk.tight r lr (omega arith)))
        (same? r (ro (fr j0)))

    us : (j : ℕ) → j < m → (j ≡ fr j0 → ⊥) → n ≤ ro' j → w j ≡ 0
    us j lj n1 fj = ⊎_elim
        (λ (e : j ≡ j0).
        let a : ro' j ≡ ro' j0 = ap ro' e in
        ap w e ∙ (pa.p_may j0 l0 wk.seen).none (omega (arith, o1)))
        (λ n0. wk.unused j lj n0 (let a = rx j (omega arith) n0 n1 in omega arith))
        (same? j j0)

-- the hole has come to the stand: every row has a column
pub walk_matched : {n m k lo : ℕ} {c : ℕ → ℕ → ℕ} {ro0 co0 u w se fr ro co : ℕ → ℕ} → Walk n m k lo m c ro0 co0 u w se fr ro co
    → k ≤ n → Matched n m k ro co
walk_matched {n} {m} {k} {lo} {c} {ro0} {co0} {u} {w} {se} {fr} {ro} {co} wk kn =
    record {
      back = λ r lr. ⊎_elim
          (λ e. absurd (let a : ro (co r) ≡ ro m = ap ro e in omega (arith, h.back_row r lr, wk.free)))
          (λ ne. omega (arith, h.back r lr))
          (same? (co r) m);
      back_row = h.back_row;
      forth = λ j lj lr. h.forth j (omega arith) lr;
      forth_col = λ j lj lr. h.forth_col j (omega arith) lr;
    }
  where
    h : Matched n (suc m) k ro co
    h = wk.matched

pub walk_priced : {n m k lo : ℕ} {c : ℕ → ℕ → ℕ} {ro0 co0 u w se fr ro co : ℕ → ℕ} → Walk n m k lo m c ro0 co0 u w se fr ro co
    → Priced n m k c ro co u w
walk_priced wk = record { under = wk.under; tight = wk.tight; unused = λ j lj fj. wk.unused j lj (λ e. omega arith) fj }

-- a free column of slack 0 is where the path begins
module _ {n m t k : ℕ} {c : ℕ → ℕ → ℕ} {ro co u w se sl fr : ℕ → ℕ} (j1 : ℕ) (se' : ℕ → ℕ)
    (tr : Tree n m t c ro u w se sl fr) (l1 : j1 < m) (out1 : se j1 ≡ 0) (zero1 : sl j1 ≡ 0) (free1 : n ≤ ro j1)
    (s1 : se' j1 ≡ suc t) (sx : (x : ℕ) → x ≤ m → (x ≡ j1 → ⊥) → se' x ≡ se x)
    (h : Matched n (suc m) k ro co) (g : Priced n m k c ro co u w) where
  from_old : (j : ℕ) → j < m → se' (fr j) ≡ se (fr j)
  from_old j lj = sx (fr j) (tr.from j lj) (λ e. let a : se (fr j) ≡ se j1 = ap se e in omega (arith, tr.from_seen j lj))

  tight_here : (j : ℕ) → j < m → 0 < se' j → u (ro (fr j)) ≡ c (ro (fr j)) j + w j
  tight_here j lj p = ⊎_elim
      (λ e. let a : sl j ≡ sl j1 = ap sl e in omega (arith, tr.link j lj))
      (λ ne. omega (arith, tr.link j lj, tr.seen_zero j lj (let a = sx j (omega arith) ne in omega arith)))
      (same? j j1)

  pub way : Path n m 0 c ro u w se' fr
  way = record {
    p_root = sx m (omega arith) (λ e. omega arith) ∙ tr.root;
    p_stand = tr.owned m (omega arith) (let r = tr.root in omega arith);
    p_from = λ j lj p. tr.from j lj;
    p_seen = λ j lj p. omega (arith, from_old j lj, tr.from_seen j lj);
    p_earlier = λ j lj p. ⊎_elim
        (λ e. let a : se' j ≡ se' j1 = ap se' e in omega (arith, from_old j lj, tr.turn (fr j) (tr.from j lj)))
        (λ ne. omega (arith, from_old j lj, sx j (omega arith) ne, tr.earlier j lj (let a = sx j (omega arith) ne in omega arith)))
        (same? j j1);
    p_later = λ j lj p. omega arith;
    p_may = λ j lj p. record {
      row = λ l. tight_here j lj p;
      none = λ l. absurd (let o = tr.owned (fr j) (tr.from j lj) (tr.from_seen j lj) in omega arith);
    };
  }

  pub walk_start : Walk n m k 0 j1 c ro co u w se' fr ro co
  walk_start = record {
    matched = h;
    at = omega arith;
    seen = omega arith;
    free = free1;
    under = g.under;
    tight = g.tight;
    unused = λ j lj ne fj. g.unused j lj fj;
    old = λ x lx lt. refl;
    fixed = λ s ls lk. refl;
    landed = λ e. absurd (omega arith);
  }

-- some row has no column while a column is free, and the other way round
pub some_free : {n m k : ℕ} {ro co : ℕ → ℕ} → Matched n m k ro co → k < m → ((j : ℕ) → j < m → ro j < n) → ⊥
some_free {n} {m} {k} {ro} {co} h km all =
    let ch : IsChoice k m co = record {
      within = h.back;
      distinct = λ a b la lb e. sym (h.back_row a la) ∙ ap ro e ∙ h.back_row b lb;
    } in
    let e = along_eq k m co (λ j. 1) ch (λ j lj no-k. absurd (no-k (ro j) (h.forth j lj (all j lj)) (h.forth_col j lj (all j lj)))) in
    omega (arith, e, sum_one k, sum_one m)

-- ---- prices are no larger than a cell

module _ {n m k : ℕ} {c : ℕ → ℕ → ℕ} {ro co u w : ℕ → ℕ} (B : ℕ) (cells : (r j : ℕ) → r < k → j < m → c r j ≤ B)
    (h : Matched n m k ro co) (g : Priced n m k c ro co u w) where
  pub bound_u : (f : ℕ) → f < m → w f ≡ 0 → (r : ℕ) → r < k → u r ≤ B
  bound_u f lf wf r lr = omega (arith, g.under r f lr lf, cells r f lr lf)

  pub bound_w : ((r : ℕ) → r < k → u r ≤ B) → (j : ℕ) → j < m → w j ≤ B
  bound_w bu j lj = ⊎_elim
      (λ lt.
      let e : co (ro j) ≡ j = h.forth_col j lj lt in
      let r : ro j < k = h.forth j lj lt in
      let a : w (co (ro j)) ≡ w j = ap w e in
      omega (arith, g.tight (ro j) r (h.back (ro j) r), bu (ro j) r))
      (λ ge. omega (arith, g.unused j lj ge))
      (less? (ro j) n)
