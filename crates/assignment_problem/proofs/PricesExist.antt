-- Some least choice has whole prices no larger than the largest cell, and every least choice is tight with them. Assumes nothing.
use Rattle.std.specs.Prelude.{◌≡◌, refl, ◌⊎◌, ℕ, zero, suc, ◌+◌, ◌-◌, ◌≤◌, ◌<◌, eqb, ltb}
use Rattle.std.proofs.Common.{sym, ap, ◌∙◌, inl, inr, arith}
use Rattle.std.proofs.Math.Bool.{cond}
use Rattle.std.proofs.Math.Logic.{⊎_elim}
use borrow.Author.Tests.{eq-eqb, ne_eqb, lt-ltb, le-ltb}
use Rattle.laws.specs.Bools.{same?, less?}
use Rattle.laws.specs.Sums.{sum, sum_lt, upd, upd_same, upd_other}
use Rattle.assignment_problem.specs.Choice.{IsChoice, total}
use Rattle.assignment_problem.specs.Prices.{Tight, Feasible}
use Rattle.assignment_problem.proofs.PriceLaws.{tight_least, tight_every}
use Rattle.assignment_problem.specs.Insertion.{Matched, Priced, Tree, Path, Walk, lift, lift_priced, lift_tree, mark, start_matched}
use Rattle.assignment_problem.specs.Insertion.{start_priced, start_tree, way, walk_start, walk_step, walk_matched, walk_priced, some_free}
use Rattle.assignment_problem.specs.Insertion.{matched_choice, priced_tight}

module _ (n m : ℕ) (c : ℕ → ℕ → ℕ) (B : ℕ) (nm : n ≤ m) (cells : (r j : ℕ) → r < n → j < m → c r j ≤ B) where
  record Placed (k : ℕ) : Type 0 where
    pub ro : ℕ → ℕ
    pub co : ℕ → ℕ
    pub u : ℕ → ℕ
    pub w : ℕ → ℕ
    pub matched : Matched n m k ro co
    pub priced : Priced n m k c ro co u w
    pub low : (r : ℕ) → r < k → u r ≤ B

  -- along the way
  walk_all : (k : ℕ) → k ≤ n → (ro0 co0 u w se fr : ℕ → ℕ) → Path n m 0 c ro0 u w se fr → ((r : ℕ) → r < k → u r ≤ B)
      → (fuel : ℕ) (hole : ℕ) (ro co : ℕ → ℕ) → se hole ≤ fuel → Walk n m k 0 hole c ro0 co0 u w se fr ro co → Placed k
  walk_all k kn ro0 co0 u w se fr pa lo zero hole ro co le wk = absurd (omega (arith, wk.seen))
  walk_all k kn ro0 co0 u w se fr pa lo (suc fuel) hole ro co le wk = ⊎_elim
      (λ (e : hole ≡ m).
      let wm : Walk n m k 0 m c ro0 co0 u w se fr ro co = rw e at wk in
      record { ro = ro; co = co; u = u; w = w; matched = walk_matched wm kn; priced = walk_priced wm; low = lo })
      (λ ne.
      let lh : hole < m = omega (arith, wk.at) in
      let lt : se (fr hole) < se hole = pa.p_earlier hole lh wk.seen in
      let far : hole ≡ fr hole → ⊥ = λ e. let a : se hole ≡ se (fr hole) = ap se e in omega arith in
      walk_all k kn ro0 co0 u w se fr pa lo fuel (fr hole) (upd (upd ro hole (ro (fr hole))) (fr hole) n) (upd co (ro (fr hole)) hole) (omega arith)
      (walk_step (upd (upd ro hole (ro (fr hole))) (fr hole) n) (upd co (ro (fr hole)) hole) pa wk kn lh
      (let e = upd_same (upd ro hole (ro (fr hole))) (fr hole) n (fr hole) refl in omega arith)
      (upd_other (upd ro hole (ro (fr hole))) (fr hole) n hole far ∙ upd_same ro hole (ro (fr hole)) hole refl)
      (λ x lx n0 n1. upd_other (upd ro hole (ro (fr hole))) (fr hole) n x n1 ∙ upd_other ro hole (ro (fr hole)) x n0)
      (λ l. upd_same co (ro (fr hole)) hole (ro (fr hole)) refl)
      (λ s ls ns. upd_other co (ro (fr hole)) hole s ns)))
      (same? hole m)

  -- the nearest column outside the tree
  nearest : (se sl : ℕ → ℕ) (f : ℕ) → f < m → se f ≡ 0 → (b : ℕ) → b ≤ m
      → (j : ℕ) × (j < m) × (se j ≡ 0) × ((x : ℕ) → x < b → se x ≡ 0 → sl j ≤ sl x)
  nearest se sl f lf of zero lb = (f, lf, of, λ x l. absurd (omega arith))
  nearest se sl f lf of (suc b) lb =
      let t = nearest se sl f lf of b (omega arith) in
      ⊎_elim
      (λ out. ⊎_elim
      (λ lt. (
        b,
        omega arith,
        out,
        λ x l o. ⊎_elim (λ e. let a : sl x ≡ sl b = ap sl e in omega arith)
            (λ ne. let a = t.3 x (omega arith) o in omega arith) (same? x b),
      ))
      (λ ge. (t.0, t.1, t.2, λ x l o. ⊎_elim (λ e. let a : sl x ≡ sl b = ap sl e in omega arith) (λ ne. t.3 x (omega arith) o) (same? x b)))
      (less? (sl b) (sl t.0)))
      (λ in_b. (t.0, t.1, t.2, λ x l o. ⊎_elim (λ e. absurd (in_b (sym (ap se e) ∙ o))) (λ ne. t.3 x (omega arith) o) (same? x b)))
      (same? (se b) 0)

  outs : (ℕ → ℕ) → ℕ
  outs se = sum m (λ j. cond (eqb (se j) 0) 1 0)

  outs_less : (se : ℕ → ℕ) (j v : ℕ) → j < m → se j ≡ 0 → outs (upd se j (suc v)) < outs se
  unfolding outs
  outs_less se j v lj out =
      sum_lt m {f = λ x. cond (eqb (upd se j (suc v) x) 0) 1 0} {g = λ x. cond (eqb (se x) 0) 1 0} j lj
      (λ k lk. ⊎_elim
      (λ e. rw (upd_same se j (suc v) k e) (rw (ne_eqb (suc v) 0 (λ q. omega arith)) (omega arith)))
      (λ ne. rw (upd_other se j (suc v) k ne) (omega arith))
      (same? k j))
      (rw (upd_same se j (suc v) j refl) (rw (eq-eqb (se j) 0 out, ne_eqb (suc v) 0 (λ q. omega arith)) (omega arith)))

  -- the tree grows until a free column is in it
  grow_all : (k : ℕ) → k < n → (f : ℕ) → f < m → (fuel t : ℕ) (ro co u w se sl fr : ℕ → ℕ) → n ≤ ro f
      → Matched n (suc m) (suc k) ro co → Priced n m (suc k) c ro co u w → Tree n m t c ro u w se sl fr → outs se < fuel → Placed (suc k)
  grow_all k kn f lf zero t ro co u w se sl fr ff h g tr le = absurd (omega arith)
  grow_all k kn f lf (suc fuel) t ro co u w se sl fr ff h g tr le =
      let of : se f ≡ 0 = ⊎_elim (λ e. e) (λ ne. absurd (omega (arith, tr.owned f (omega arith) (omega arith)))) (same? (se f) 0) in
      let ne = nearest se sl f lf of m (omega arith) in
      let j : ℕ = ne.0 in
      let d : ℕ = sl j in
      let u' : ℕ → ℕ = λ r. u r + lift (se (co r)) d in
      let w' : ℕ → ℕ = λ x. w x + lift (se x) d in
      let sl' : ℕ → ℕ = λ x. cond (eqb (se x) 0) (sl x - d) (sl x) in
      let si : (x : ℕ) → x < m → 0 < se x → sl' x ≡ sl x = λ x lx p. rw (ne_eqb (se x) 0 (λ e. omega arith)) refl in
      let so : (x : ℕ) → x < m → se x ≡ 0 → sl' x ≡ sl x - d = λ x lx e. rw (eq-eqb (se x) 0 e) refl in
      let g' : Priced n m (suc k) c ro co u' w' = lift_priced d u' w' sl' h g tr ne.3 (λ r l. refl) (λ x l. refl) si so in
      let tr' : Tree n m t c ro u' w' se sl' fr = lift_tree d u' w' sl' h g tr ne.3 (λ r l. refl) (λ x l. refl) si so in
      let z : sl' j ≡ 0 = so j ne.1 ne.2 ∙ omega arith in
      next k kn f lf fuel t ro co u' w' se sl' fr ff h g' tr' j ne.1 ne.2 z (omega (arith, outs_less se j t ne.1 ne.2))
      (λ ro co u w se sl fr a b d e l. grow_all k kn f lf fuel (suc t) ro co u w se sl fr a b d e l)
    where
      next : (k : ℕ) → k < n → (f : ℕ) → f < m → (fuel t : ℕ) (ro co u w se sl fr : ℕ → ℕ) → n ≤ ro f
          → Matched n (suc m) (suc k) ro co → Priced n m (suc k) c ro co u w → Tree n m t c ro u w se sl fr
          → (j : ℕ) → j < m → se j ≡ 0 → sl j ≡ 0 → outs (upd se j (suc t)) < fuel
          → ((ro co u w se sl fr : ℕ → ℕ) → n ≤ ro f → Matched n (suc m) (suc k) ro co → Priced n m (suc k) c ro co u w
          → Tree n m (suc t) c ro u w se sl fr → outs se < fuel → Placed (suc k)) → Placed (suc k)
      next k kn f lf fuel t ro co u w se sl fr ff h g tr j lj oj zj le go = ⊎_elim
          (λ own.
          let s : ℕ → ℕ = λ x. c (ro j) x + w x - u (ro j) in
          let sl'' : ℕ → ℕ = λ x. cond (eqb (upd se j (suc t) x) 0) (cond (ltb (s x) (sl x)) (s x) (sl x)) (sl x) in
          let fr'' : ℕ → ℕ = λ x. cond (eqb (upd se j (suc t) x) 0) (cond (ltb (s x) (sl x)) j (fr x)) (fr x) in
          go ro co u w (upd se j (suc t)) sl'' fr'' ff h g
          (mark j (upd se j (suc t)) sl'' fr'' tr lj oj zj own (upd_same se j (suc t) j refl) (λ x lx nx. upd_other se j (suc t) x nx)
          (λ x lx p. let q = ne_eqb (upd se j (suc t) x) 0 (λ e. omega arith) in (rw q refl, rw q refl))
          (λ x lx o. rw (eq-eqb (upd se j (suc t) x) 0 o) (⊎_elim
          (λ lt. rw (lt-ltb (s x) (sl x) lt) (inr (refl, omega arith, omega (arith, g.under (ro j) x (h.forth j (omega arith) own) lx))))
          (λ ge. rw (le-ltb (s x) (sl x) ge) (inl (refl, refl, omega (arith, g.under (ro j) x (h.forth j (omega arith) own) lx))))
          (less? (s x) (sl x)))))
          le)
          (λ fj.
          let se' : ℕ → ℕ = upd se j (suc t) in
          walk_all (suc k) kn ro co u w se' fr
          (way j se' tr lj oj zj fj (upd_same se j (suc t) j refl) (λ x lx nx. upd_other se j (suc t) x nx) h g)
          (λ r lr. omega (arith, g.under r f lr lf, cells r f (omega arith) lf, g.unused f lf ff))
          (suc t) j ro co (let e = upd_same se j (suc t) j refl in omega arith)
          (walk_start j se' tr lj oj zj fj (upd_same se j (suc t) j refl) (λ x lx nx. upd_other se j (suc t) x nx) h g))
          (less? (ro j) n)

  find_free : (ro : ℕ → ℕ) (b : ℕ) → ((f : ℕ) × (f < b) × (n ≤ ro f)) ⊎ ((j : ℕ) → j < b → ro j < n)
  find_free ro zero = inr (λ j l. absurd (omega arith))
  find_free ro (suc b) = ⊎_elim
      (λ t. inl (t.0, (let a = t.1 in omega arith), t.2))
      (λ all. ⊎_elim
      (λ lt. inr (λ j l. ⊎_elim (λ e. let a : ro j ≡ ro b = ap ro e in omega arith) (λ ne. all j (omega arith)) (same? j b)))
      (λ ge. inl (b, omega arith, ge))
      (less? (ro b) n))
      (find_free ro b)

  insert_one : (k : ℕ) → k < n → Placed k → Placed (suc k)
  insert_one k kn p = ⊎_elim
      (λ t.
      let ro : ℕ → ℕ = p.ro in
      let co : ℕ → ℕ = p.co in
      let ro' : ℕ → ℕ = upd ro m k in
      let co' : ℕ → ℕ = upd co k m in
      let u' : ℕ → ℕ = upd p.u k 0 in
      let se : ℕ → ℕ = upd (λ x. 0) m 1 in
      let rx : (x : ℕ) → x < m → ro' x ≡ ro x = λ x lx. upd_other ro m k x (λ e. omega arith) in
      let cx : (s : ℕ) → s < k → co' s ≡ co s = λ s ls. upd_other co k m s (λ e. omega arith) in
      let uk : u' k ≡ 0 = upd_same p.u k 0 k refl in
      grow_all k kn t.0 t.1 (suc (outs se)) 1 ro' co' u' p.w se (λ x. c k x + p.w x) (λ x. m)
      (let a = rx t.0 t.1 in let b = t.2 in omega arith)
      (start_matched ro' co' p.matched kn (upd_same ro m k m refl) rx (upd_same co k m k refl) cx)
      (start_priced ro' co' u' p.priced rx (upd_same co k m k refl) cx uk (λ s ls. upd_other p.u k 0 s (λ e. omega arith)))
      (start_tree n m k c ro' u' p.w se (λ x. c k x + p.w x) (λ x. m) kn (upd_same ro m k m refl) (upd_same (λ x. 0) m 1 m refl)
      (λ x lx. upd_other (λ y. 0) m 1 x (λ e. omega arith)) (λ x lx. refl) (λ x lx. omega arith))
      (omega arith))
      (λ all. absurd (some_free p.matched (omega arith) all))
      (find_free p.ro m)

  insert_all : (k : ℕ) → k ≤ n → Placed k
  insert_all zero l = record {
    ro = λ j. n;
    co = λ r. 0;
    u = λ r. 0;
    w = λ j. 0;
    matched = record {
      back = λ r lr. absurd (omega arith);
      back_row = λ r lr. absurd (omega arith);
      forth = λ j lj lr. absurd (omega arith);
      forth_col = λ j lj lr. absurd (omega arith);
    };
    priced = record { under = λ r j lr. absurd (omega arith); tight = λ r lr. absurd (omega arith); unused = λ j lj f. refl };
    low = λ r lr. absurd (omega arith);
  }
  insert_all (suc k) l = insert_one k l (insert_all k (omega arith))

  -- prices within the cells' bound
  pub record LeastPrices : Type 0 where
    pub u : ℕ → ℕ
    pub w : ℕ → ℕ
    pub feasible : Feasible n m c u w
    pub u_bound : (r : ℕ) → r < n → u r ≤ B
    pub w_bound : (j : ℕ) → j < m → w j ≤ B
    -- every least choice is tight with them
    pub all_tight : (q : ℕ → ℕ) → IsChoice n m q → ((p : ℕ → ℕ) → IsChoice n m p → total n c q ≤ total n c p)
        → Tight n m c q u w

  pub prices_exist : LeastPrices
  prices_exist =
      let p = insert_all n (omega arith) in
      let h = p.matched in
      let g = p.priced in
      record {
        u = p.u;
        w = p.w;
        feasible = g.under;
        u_bound = p.low;
        w_bound = λ j lj. ⊎_elim
            (λ lt.
            let e : p.co (p.ro j) ≡ j = h.forth_col j lj lt in
            let r : p.ro j < n = h.forth j lj lt in
            let a : p.w (p.co (p.ro j)) ≡ p.w j = ap p.w e in
            omega (arith, g.tight (p.ro j) r (h.back (p.ro j) r), p.low (p.ro j) r))
            (λ ge. omega (arith, g.unused j lj ge))
            (less? (p.ro j) n);
        all_tight = λ q hq lq. tight_every (matched_choice h) (priced_tight h g) g.under q hq
            (omega (arith, lq p.co (matched_choice h), tight_least (matched_choice h) (priced_tight h g) g.under q hq));
      }
