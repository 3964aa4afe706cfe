-- Which columns row i cannot have in a least choice that agrees on the rows before it: those from which, in the equality graph, its own column
-- cannot be reached. No counting is needed: prices shifted by 1 show it. Assumes nothing.
use Rattle.std.specs.Prelude.{◌≡◌, refl, cond, ◌⊎◌, ℕ, zero, suc, ◌+◌, ◌≤◌, ◌<◌, ltb}
use Rattle.std.proofs.Common.{sym, ap, ◌∙◌, inl, inr, ⊎_elim, arith, lt-ltb, le-ltb}
use Rattle.laws.specs.Bools.{same?, less?, cond-one}
use Rattle.assignment_problem.specs.Choice.{IsChoice, total}
use Rattle.assignment_problem.proofs.PriceLaws.{tight_every}
use Rattle.assignment_problem.specs.Insertion.{Matched, Priced, May, matched_choice, priced_tight}
use Rattle.equality_graph.specs.Shifts.{raise, lower}

-- A set of columns (se is not 0) with k, row i's, that nothing outside may enter: what a column outside holds, a row after i or nothing, may
-- go to no column inside.
pub record Kept (n m i k : ℕ) (c : ℕ → ℕ → ℕ) (ro u w se : ℕ → ℕ) : Type 0 where
  pub home : se k ≡ 1
  pub later : (x : ℕ) → x < m → 0 < se x → (x ≡ k → ⊥) → i < ro x
  pub closed : (x y : ℕ) → x < m → y < m → se x ≡ 0 → i < ro x → 0 < se y → May n c u w (ro x) y → ⊥

-- a free column outside what is reached, or none
free_out : (n : ℕ) (ro se : ℕ → ℕ) (m : ℕ) → ((x : ℕ) × (x < m) × (n ≤ ro x) × (se x ≡ 0)) ⊎
    ((x : ℕ) → x < m → n ≤ ro x → 0 < se x)
free_out n ro se zero = inr (λ x l. absurd (omega arith))
free_out n ro se (suc m) = ⊎_elim
    (λ t. inl (t.0, (let a = t.1 in omega arith), t.2, t.3))
    (λ no-x. ⊎_elim
    (λ lt. inr (λ x l f. ⊎_elim (λ e. absurd (let a : ro x ≡ ro m = ap ro e in omega arith)) (λ ne. no-x x (omega arith) f) (same? x m)))
    (λ ge. ⊎_elim
    (λ e. inl (m, omega arith, ge, e))
    (λ ne. inr (λ x l f. ⊎_elim (λ e. let a : se x ≡ se m = ap se e in omega arith) (λ nx. no-x x (omega arith) f) (same? x m)))
    (same? (se m) 0))
    (less? (ro m) n))
    (free_out n ro se m)

module _ {n m i : ℕ} {c : ℕ → ℕ → ℕ} {ro co u w se : ℕ → ℕ}
    (h : Matched n m n ro co) (g : Priced n m n c ro co u w) (li : i < n) (re : Kept n m i (co i) c ro u w se)
    (q : ℕ → ℕ) (hq : IsChoice n m q) (agree : (r : ℕ) → r < i → q r ≡ co r) (out : se (q i) ≡ 0) where
  hp : IsChoice n m co
  hp = matched_choice h

  -- a row after i that holds a column outside may go to no column inside
  shut_in : (r y : ℕ) → i ≤ r → r < n → y < m → se (co r) ≡ 0 → 0 < se y → u r < c r y + w y
  shut_in r y ir lr ly o s =
      let e : ro (co r) ≡ r = h.back_row r lr in
      let far : (r ≡ i → ⊥) = λ q. let a : se (co r) ≡ se (co i) = ap (λ (z : ℕ). se (co z)) q in omega (arith, re.home) in
      ⊎_elim
      (λ tight. absurd (re.closed (co r) y (h.back r lr) ly o (omega arith) s
      (record { row = λ l. rw e tight; none = λ l. absurd (omega arith) })))
      (λ ne. omega (arith, g.under r y lr ly))
      (same? (u r) (c r y + w y))

  -- the columns inside: 1
  abbrev in_set : ℕ → ℕ
  in_set y = cond (ltb 0 (se y)) 1 0

  in_yes : (y : ℕ) → 0 < se y → in_set y ≡ 1
  in_yes y s = rw (lt-ltb 0 (se y) s)

  in_no : (y : ℕ) → se y ≡ 0 → in_set y ≡ 0
  in_no y s = rw (le-ltb 0 (se y) (omega arith))

  is_in : (y : ℕ) → in_set y ≡ 1 → 0 < se y
  is_in y e = ⊎_elim (λ z. absurd (let a = in_no y z in omega arith)) (λ ne. omega arith) (same? (se y) 0)

  is_out : (y : ℕ) → in_set y ≡ 0 → se y ≡ 0
  is_out y e = ⊎_elim (λ z. z) (λ ne. absurd (let a = in_yes y (omega arith) in omega arith)) (same? (se y) 0)

  -- a fixed row's column is outside
  fixed_out : (r : ℕ) → r < i → se (co r) ≡ 0
  fixed_out r lr = ⊎_elim (λ z. z)
      (λ ne. absurd
      (let e : ro (co r) ≡ r = h.back_row r (omega arith) in
      let far : co r ≡ co i → ⊥ = λ q. let a : r ≡ i = hp.distinct r i (omega arith) li q in omega arith in
      let a = re.later (co r) (h.back r (omega arith)) (omega arith) far in omega arith))
      (same? (se (co r)) 0)

  -- case: some free column is outside, so every column inside has a price
  case_lower : (x : ℕ) → x < m → n ≤ ro x → se x ≡ 0 → total n c co < total n c q
  case_lower x lx fx ox =
      lower hp (priced_tight h g) g.under i li in_set (λ j. cond-one (ltb 0 (se j))) (λ r lr. in_no (co r) (fixed_out r lr)) q hq agree
      (λ j lj e. ⊎_elim
      (λ z. absurd (re.closed x j lx lj ox (omega arith) (is_in j e) (record { row = λ l. absurd (omega arith); none = λ l. z })))
      (λ ne. omega arith)
      (same? (w j) 0))
      (λ r y ir lr ly no-s zr zy. shut_in r y ir lr ly (is_out (co r) zr) (is_in y zy))
      (in_yes (co i) (let a = re.home in omega arith))
      (in_no (q i) out)

  -- case: every free column is inside. The columns outside, but for the fixed ones: 1
  abbrev out_set : ℕ → ℕ
  out_set y = cond (ltb 0 (se y)) 0 (cond (ltb i (ro y)) 1 0)

  out_seen : (y : ℕ) → 0 < se y → out_set y ≡ 0
  out_seen y s = rw (lt-ltb 0 (se y) s)

  out_fixed : (y : ℕ) → ro y ≤ i → out_set y ≡ 0
  out_fixed y l = ⊎_elim
      (λ s. out_seen y s)
      (λ s. rw (le-ltb 0 (se y) s) (rw (le-ltb i (ro y) l) refl))
      (less? 0 (se y))

  out_yes : (y : ℕ) → se y ≡ 0 → i < ro y → out_set y ≡ 1
  out_yes y s l = rw (le-ltb 0 (se y) (omega arith)) (rw (lt-ltb i (ro y) l) refl)

  out_one : (y : ℕ) → out_set y ≤ 1
  out_one y = ⊎_elim
      (λ s. let a = out_seen y s in omega arith)
      (λ s. ⊎_elim (λ l. let a = out_yes y (omega arith) l in omega arith) (λ l. let a = out_fixed y l in omega arith) (less? i (ro y)))
      (less? 0 (se y))

  case_raise : ((x : ℕ) → x < m → n ≤ ro x → 0 < se x) → total n c co < total n c q
  case_raise all_in =
      raise hp (priced_tight h g) g.under i li out_set out_one (λ r lr. out_fixed (co r) (let e = h.back_row r (omega arith) in omega arith)) q
      hq agree
      (λ j lj no-k. out_seen j (⊎_elim (λ l. absurd (no-k (ro j) l (h.forth_col j lj l))) (λ ge. all_in j lj ge) (less? (ro j) n)))
      (λ r y ir lr ly no-s zr zy. shut_in r y ir lr ly
      (⊎_elim (λ z. z) (λ ne. absurd (let a = out_seen (co r) (omega arith) in omega arith)) (same? (se (co r)) 0))
      (⊎_elim
      (λ s. s)
      (λ s. ⊎_elim
      (λ l. absurd (let a = out_yes y (omega arith) l in omega arith))
      (λ l.
      let ly' : ro y < n = omega arith in
      let e : co (ro y) ≡ y = h.forth_col y ly ly' in
      ⊎_elim
      (λ q1. let a : se (co i) ≡ se y = ap se (sym (ap co q1) ∙ e) in omega (arith, re.home))
      (λ ne. absurd (no-s (ro y) (omega arith) e))
      (same? (ro y) i))
      (less? i (ro y)))
      (less? 0 (se y))))
      (out_seen (co i) (let a = re.home in omega arith))
      (out_yes (q i) out
      (⊎_elim
      (λ l. l)
      (λ l.
      let lq : q i < m = hq.within i li in
      let lr : ro (q i) < n = omega arith in
      let e : co (ro (q i)) ≡ q i = h.forth_col (q i) lq lr in
      ⊎_elim
      (λ q1. absurd (let a : se (co i) ≡ se (q i) = ap se (sym (ap co q1) ∙ e) in omega (arith, re.home)))
      (λ ne. absurd
      (let d : ro (q i) ≡ i = hq.distinct (ro (q i)) i lr li (agree (ro (q i)) (omega arith) ∙ e) in ne d))
      (same? (ro (q i)) i))
      (less? i (ro (q i)))))

  pub unreachable : total n c co < total n c q
  unreachable = ⊎_elim (λ t. case_lower t.0 t.1 t.2 t.3) case_raise (free_out n ro se m)

-- ---- the columns that a search has seen

-- What a column seen holds may go to no column that is not seen and that may still change hands, k among them.
pub record Shut (n m i k : ℕ) (c : ℕ → ℕ → ℕ) (ro u w se : ℕ → ℕ) : Type 0 where
  pub away : se k ≡ 0
  pub closed : (x y : ℕ) → x < m → y < m → 0 < se x → se y ≡ 0 → i ≤ ro y → May n c u w (ro x) y → ⊥

-- 1 at the columns that are not seen and may still change hands
abbrev rest : ℕ → (ℕ → ℕ) → (ℕ → ℕ) → ℕ → ℕ
rest i ro se y = cond (ltb 0 (se y)) 0 (cond (ltb (ro y) i) 0 1)

rest_yes : (i : ℕ) (ro se : ℕ → ℕ) (y : ℕ) → se y ≡ 0 → i ≤ ro y → rest i ro se y ≡ 1
rest_yes i ro se y s l = rw (le-ltb 0 (se y) (omega arith)) (rw (le-ltb (ro y) i l) refl)

rest_seen : (i : ℕ) (ro se : ℕ → ℕ) (y : ℕ) → 0 < se y → rest i ro se y ≡ 0
rest_seen i ro se y s = rw (lt-ltb 0 (se y) s)

rest_fixed : (i : ℕ) (ro se : ℕ → ℕ) (y : ℕ) → ro y < i → rest i ro se y ≡ 0
rest_fixed i ro se y l =
    ⊎_elim (λ s. rest_seen i ro se y s) (λ s. rw (le-ltb 0 (se y) s) (rw (lt-ltb (ro y) i l) refl)) (less? 0 (se y))

rest_is : (i : ℕ) (ro se : ℕ → ℕ) (y : ℕ) → 0 < rest i ro se y → (se y ≡ 0) × (i ≤ ro y)
rest_is i ro se y p = (
  ⊎_elim (λ s. absurd (let a = rest_seen i ro se y s in omega arith)) (λ s. omega arith) (less? 0 (se y)),
  ⊎_elim (λ l. absurd (let a = rest_fixed i ro se y l in omega arith)) (λ l. l) (less? (ro y) i),
)

rest_no : (i : ℕ) (ro se : ℕ → ℕ) (y : ℕ) → rest i ro se y ≡ 0 → i < ro y → 0 < se y
rest_no i ro se y e l = ⊎_elim (λ z. absurd (let a = rest_yes i ro se y z (omega arith) in omega arith)) (λ ne. omega arith) (same? (se y) 0)

shut_kept : {n m i : ℕ} {c : ℕ → ℕ → ℕ} {ro co u w se : ℕ → ℕ} → Matched n m n ro co → i < n → Shut n m i (co i) c ro u w se
    → Kept n m i (co i) c ro u w (rest i ro se)
shut_kept {n} {m} {i} {c} {ro} {co} {u} {w} {se} h li sh =
    record {
      home = rest_yes i ro se (co i) sh.away (let e = h.back_row i li in omega arith);
      later = λ x lx p ne.
          let a = rest_is i ro se x p in
          ⊎_elim
          (λ (e : ro x ≡ i). absurd (ne (sym (h.forth_col x lx (omega arith)) ∙ ap co e)))
          (λ far. omega arith)
          (same? (ro x) i);
      closed = λ x y lx ly o lr p ma.
          let b = rest_is i ro se y p in
          sh.closed x y lx ly (rest_no i ro se x o lr) b.0 b.1 ma;
    }

-- Where every column below j that row i is tight at, and that may still change hands, is seen and shut in, no least choice that agrees on the
-- rows before i has a column below j for it.
pub low : {n m i : ℕ} {c : ℕ → ℕ → ℕ} {ro co u w se : ℕ → ℕ} {j : ℕ} → Matched n m n ro co → Priced n m n c ro co u w
    → i < n
    → Shut n m i (co i) c ro u w se → j ≤ co i → ((x : ℕ) → x < j → i ≤ ro x → u i ≡ c i x + w x → 0 < se x)
    → (q : ℕ → ℕ) → IsChoice n m q → total n c q ≡ total n c co → ((r : ℕ) → r < i → q r ≡ co r) → j ≤ q i
low {n} {m} {i} {c} {ro} {co} {u} {w} {se} {j} h g li sh top passed q hq e agree = ⊎_elim
    (λ lt. absurd (let a : total n c co < total n c q =
    unreachable h g li (shut_kept h li sh) q hq agree (rest_seen i ro se (q i) (passed (q i) lt (may_change lt) tight)) in omega arith))
    (λ ge. ge)
    (less? (q i) j)
  where
    tight : u i ≡ c i (q i) + w (q i)
    tight = (tight_every (matched_choice h) (priced_tight h g) g.under q hq e).tight i li

    -- the column of q is not a row's before i: that row has the same column in q
    may_change : q i < j → i ≤ ro (q i)
    may_change lt = ⊎_elim
        (λ l.
        let lr : ro (q i) < n = omega arith in
        let o : co (ro (q i)) ≡ q i = h.forth_col (q i) (hq.within i li) lr in
        let d : ro (q i) ≡ i = hq.distinct (ro (q i)) i lr li (agree (ro (q i)) l ∙ o) in
        absurd (omega arith))
        (λ ge. ge)
        (less? (ro (q i)) i)
