-- What the recursion finds, whatever counts as standing: a choice with its total, the foremost one, and there is no other. Assumes nothing.
--   found_length found_is found_total       one column a car, the foremost choice, and its total
--   found_only                              whatever is foremost has the recursion's columns
use Rattle.std.specs.Prelude.{◌≡◌, Bool, true, false, List, [], ◌∷◌, eqb, length, get_or}
use Rattle.std.proofs.Math.Path.{refl, ap}
use Rattle.std.proofs.Common.{sym, ap₂, ◌∙◌, subst, ⊎_elim, arith, add-zero, ext_get_or, ne_eqb}
use Rattle.std.proofs.Math.Bool.{cond}
use Prim.Native.Nat.{ℕ, zero, suc, ◌+◌, ◌≤◌, ◌<◌}
use Rattle.std.proofs.lemmas.Bool.{eqb-false}
use Rattle.laws.specs.Bools.{same?, less?, neither_left, neither_right}
use Rattle.laws.specs.Sums.{sum, sum_cong, sum_front}
use Rattle.laws.specs.Tables.{tab, tab_front, length-tab, get_or-tab₀}
use Rattle.assignment_problem.specs.Choice.{IsChoice, total, Foremost}
use Rattle.assignment_problem.specs.Recursion.{Candidate, none, some, before, better, front, is_in, scan, best, columns_of, candidate_total}
use Rattle.assignment_problem.proofs.Beats.{cost, Fit, fnil, fcons, Lex, lnil, lless, lsame, Beats, best_beats}

-- ---- there is only one

module _ {n m : ℕ} {c s : ℕ → ℕ → ℕ} {p q : ℕ → ℕ} (hp : Foremost n m c s p) (hq : Foremost n m c s q) where
  pub same_total : total n c p ≡ total n c q
  same_total = omega (arith, hp.least q hq.choice, hq.least p hp.choice)

  same_standing : total n s p ≡ total n s q
  same_standing = omega (arith, hp.most q hq.choice (sym same_total), hq.most p hp.choice same_total)

  same_before : (i : ℕ) → i ≤ n → (r : ℕ) → r < i → p r ≡ q r
  same_before zero l r lr = absurd (omega arith)
  same_before (suc i) l r lr =
      let before : (s : ℕ) → s < i → p s ≡ q s = same_before i (omega arith) in
      ⊎_elim
      (λ (e : r ≡ i).
      let a : p i ≤ q i = hp.lowest q hq.choice (sym same_total) (sym same_standing) i (omega arith) (λ s ls. sym (before s ls)) in
      let b : q i ≤ p i = hq.lowest p hp.choice same_total same_standing i (omega arith) before in
      let same : p i ≡ q i = omega arith in
      ap p e ∙ same ∙ ap q (sym e))
      (λ ne. before r (omega arith))
      (same? r i)

  pub same_columns : (i : ℕ) → i < n → p i ≡ q i
  same_columns i l = same_before n (omega arith) i l

-- ---- what the recursion answers is a choice, with its total

abbrev Sound : (ℕ → ℕ → ℕ) → (ℕ → ℕ → ℕ) → ℕ → ℕ → ℕ → List ℕ → Candidate → Type 0
Sound c s m k i taken none = Unit {0}
Sound c s m k i taken (some t x l) = (length l ≡ k) × Fit m taken l × (cost c i l ≡ t) × (cost s i l ≡ x)

module _ (c s : ℕ → ℕ → ℕ) (m : ℕ) where
  better_sound : (k i : ℕ) (taken : List ℕ) (a b : Candidate) → Sound c s m k i taken a → Sound c s m k i taken b
      → Sound c s m k i taken (better a b)
  better_sound k i taken none b p q = q
  better_sound k i taken (some t x l) none p q = p
  better_sound k i taken (some t x l) (some u y r) p q = go (before u y t x)
    where
      go : (v : Bool) → Sound c s m k i taken (cond v (some u y r) (some t x l))
      go true = q
      go false = p

  scan_sound : (k i : ℕ) (taken : List ℕ) (f : ℕ → Candidate) (n : ℕ) → ((j : ℕ) → j < n → Sound c s m k i taken (f j))
      → Sound c s m k i taken (scan f n)
  unfolding scan
  scan_sound k i taken f zero h = tt
  scan_sound k i taken f (suc n) h =
      better_sound k i taken (scan f n) (f n) (scan_sound k i taken f n (λ j l. h j (omega arith))) (h n (omega arith))

  front_sound : (k i j : ℕ) (taken : List ℕ) → j < m → is_in j taken ≡ false → (a : Candidate)
      → Sound c s m k (suc i) (j ∷ taken) a → Sound c s m (suc k) i taken (front (c i j) (s i j) j a)
  unfolding cost
  front_sound k i j taken l e none h = tt
  front_sound k i j taken l e (some t x r) h =
      (ap suc h.0, fcons l e h.1, ap (λ (y : ℕ). c i j + y) h.2, ap (λ (y : ℕ). s i j + y) h.3)

  guard_sound : (k i j : ℕ) (taken : List ℕ) (a : Candidate) (v : Bool) → (v ≡ false → Sound c s m k i taken a)
      → Sound c s m k i taken (cond v none a)
  guard_sound k i j taken a true h = tt
  guard_sound k i j taken a false h = h refl

  best_sound : (k i : ℕ) (taken : List ℕ) → Sound c s m k i taken (best c s m k i taken)
  unfolding best cost
  best_sound zero i taken = (refl, fnil, refl, refl)
  best_sound (suc k) i taken =
      let after : ℕ → Candidate = λ j. best c s m k (suc i) (j ∷ taken) in
      scan_sound (suc k) i taken (λ j. cond (is_in j taken) none (front (c i j) (s i j) j (after j))) m
      (λ j l. guard_sound (suc k) i j taken (front (c i j) (s i j) j (after j)) (is_in j taken)
      (λ e. front_sound k i j taken l e (after j) (best_sound k (suc i) (j ∷ taken))))

-- ---- lists of columns and functions from cars to columns

cost_sum : (c : ℕ → ℕ → ℕ) (i : ℕ) (l : List ℕ) → cost c i l ≡ sum (length l) (λ k. c (i + k) (get_or l k 0))
unfolding cost sum
cost_sum c i [] = refl
cost_sum c i (j ∷ js) =
    let step : sum (length js) (λ k. c (suc i + k) (get_or js k 0)) ≡ sum (length js) (λ k. c (i + suc k) (get_or js k 0)) =
    sum_cong (length js) (λ k l. ap (λ (x : ℕ). c x (get_or js k 0)) (omega arith)) in
    let at : c (i + 0) j ≡ c i j = ap (λ (x : ℕ). c x j) (add-zero i) in
    omega (arith, cost_sum c (suc i) js, step, sum_front (length js) (λ k. c (i + k) (get_or (j ∷ js) k 0)))

fit_within : {m : ℕ} {taken l : List ℕ} → Fit m taken l → (k : ℕ) → k < length l → (get_or l k 0 < m)
    × (is_in (get_or l k 0) taken ≡ false)
fit_within fnil k h = absurd (omega arith)
fit_within (fcons a b f) zero h = (a, b)
fit_within (fcons {taken = taken} {j = j} {js = js} a b f) (suc k) h =
    let r = fit_within f k (omega arith) in
    (r.0, neither_right (eqb (get_or js k 0) j) (is_in (get_or js k 0) taken) r.1)

fit_distinct : {m : ℕ} {taken l : List ℕ} → Fit m taken l → (a b : ℕ) → a < b → b < length l → get_or l a 0 ≡ get_or l b 0 → ⊥
fit_distinct fnil a b x y e = omega arith
fit_distinct (fcons p q f) a zero x y e = omega arith
fit_distinct (fcons {taken = taken} {j = j} {js = js} p q f) zero (suc b) x y e =
    eqb-false (get_or js b 0) j (neither_left (eqb (get_or js b 0) j) (is_in (get_or js b 0) taken) (fit_within f b (omega arith)).1) (sym e)
fit_distinct (fcons p q f) (suc a) (suc b) x y e = fit_distinct f a b (omega arith) (omega arith) e

fit_choice : (m : ℕ) (l : List ℕ) → Fit m [] l → IsChoice (length l) m (λ k. get_or l k 0)
fit_choice m l f =
    record {
      within = λ k h. (fit_within f k h).0;
      distinct = λ a b la lb e.
          ⊎_elim (λ x. absurd (fit_distinct f a b x lb e))
          (λ x. ⊎_elim (λ y. absurd (fit_distinct f b a y la (sym e))) (λ y. omega arith) (less? b a))
          (less? a b);
    }

is_in_step : (x j : ℕ) (l : List ℕ) → (x ≡ j → ⊥) → is_in x l ≡ false → is_in x (j ∷ l) ≡ false
is_in_step x j l ne h = rw (ne_eqb x j ne) h

tab_fit : (m n : ℕ) (q : ℕ → ℕ) (taken : List ℕ)
    → ((k : ℕ) → k < n → (q k < m) × (is_in (q k) taken ≡ false))
    → ((a b : ℕ) → a < b → b < n → q a ≡ q b → ⊥)
    → Fit m taken (tab q n)
unfolding tab
tab_fit m zero q taken h d = fnil
tab_fit m (suc n) q taken h d =
    subst (λ (l : List ℕ). Fit m taken l) (sym (tab_front q n))
    (fcons (h 0 (omega arith)).0 (h 0 (omega arith)).1
    (tab_fit m n (λ k. q (suc k)) (q 0 ∷ taken)
    (λ k l. (
      (h (suc k) (omega arith)).0,
      is_in_step (q (suc k)) (q 0) taken (λ e. d 0 (suc k) (omega arith) (omega arith) (sym e)) (h (suc k) (omega arith)).1,
    ))
    (λ a b x y e. d (suc a) (suc b) (omega arith) (omega arith) e)))

lex_low : {l k : List ℕ} → Lex l k → (i : ℕ) → i < length l → ((r : ℕ) → r < i → get_or k r 0 ≡ get_or l r 0)
    → get_or l i 0 ≤ get_or k i 0
lex_low lnil i h e = absurd (omega arith)
lex_low (lless lt) zero h e = omega arith
lex_low (lless lt) (suc i) h e = absurd (let z = e 0 (omega arith) in omega arith)
lex_low (lsame r) zero h e = omega arith
lex_low (lsame r) (suc i) h e = lex_low r i (omega arith) (λ s ls. e (suc s) (omega arith))

-- ---- the recursion's choice

list_fit : (n m : ℕ) (q : ℕ → ℕ) → IsChoice n m q → Fit m [] (tab q n)
list_fit n m q h =
    tab_fit m n q []
    (λ k l. (h.within k l, refl))
    (λ a b x y e. let s : a ≡ b = h.distinct a b (omega arith) y e in omega arith)

list_cost : (c : ℕ → ℕ → ℕ) (n : ℕ) (q : ℕ → ℕ) → cost c 0 (tab q n) ≡ total n c q
unfolding total
list_cost c n q =
    cost_sum c 0 (tab q n)
    ∙ ap (λ (x : ℕ). sum x (λ k. c (0 + k) (get_or (tab q n) k 0))) (length-tab q n)
    ∙ sum_cong n (λ k l. ap₂ c (omega arith) (get_or-tab₀ q n k 0 l))

-- a list's cost is the total of its columns
cost_total : (c : ℕ → ℕ → ℕ) (n : ℕ) (l : List ℕ) → length l ≡ n → cost c 0 l ≡ total n c (λ k. get_or l k 0)
unfolding total
cost_total c n l e =
    cost_sum c 0 l ∙ ap (λ (x : ℕ). sum x (λ k. c (0 + k) (get_or l k 0))) e ∙ sum_cong n (λ k lk. ap (λ (x : ℕ). c x (get_or l k 0)) (omega arith))

module _ (c s : ℕ → ℕ → ℕ) (n m : ℕ) where
  -- what the recursion finds, whatever it is, beats each choice
  all_beaten : (q : ℕ → ℕ) → IsChoice n m q → Beats (best c s m n 0 []) (total n c q) (total n s q) (tab q n)
  all_beaten q h =
      rw (← list_cost c n q, ← list_cost s n q)
      (subst (λ (x : ℕ). Beats (best c s m x 0 []) (cost c 0 (tab q n)) (cost s 0 (tab q n)) (tab q n)) (length-tab q n)
      (best_beats c s m 0 (list_fit n m q h)))

  record Whole (l : List ℕ) (t : ℕ) : Type 0 where
    pub size : length l ≡ n
    pub is_foremost : Foremost n m c s (λ k. get_or l k 0)
    pub its_total : t ≡ total n c (λ k. get_or l k 0)

  whole_of : n ≤ m → (a : Candidate) → Sound c s m n 0 [] a
      → ((q : ℕ → ℕ) → IsChoice n m q → Beats a (total n c q) (total n s q) (tab q n))
      → Whole (columns_of a) (candidate_total a)
  whole_of h none so b = absurd (b (λ k. k) (record { within = λ k l. omega arith; distinct = λ x y lx ly e. e }))
  whole_of h (some t x l) so b = record {
    size = so.0;
    is_foremost = record {
      choice = subst (λ (x : ℕ). IsChoice x m (λ k. get_or l k 0)) so.0 (fit_choice m l so.1);
      least = λ q hq. ⊎_elim (λ a. omega (arith, own)) (λ a. omega (arith, own)) (b q hq);
      most = λ q hq e. ⊎_elim
          (λ a. absurd (omega (arith, own)))
          (λ a. ⊎_elim (λ d. omega (arith, stand)) (λ d. omega (arith, stand)) a.1)
          (b q hq);
      lowest = low;
    };
    its_total = own;
  }
    where
      own : t ≡ total n c (λ k. get_or l k 0)
      own = sym so.2 ∙ cost_total c n l so.0

      stand : x ≡ total n s (λ k. get_or l k 0)
      stand = sym so.3 ∙ cost_total s n l so.0

      low : (q : ℕ → ℕ) → IsChoice n m q → total n c q ≡ total n c (λ k. get_or l k 0) → total n s q ≡ total n s (λ k. get_or l k 0)
          → (i : ℕ) → i < n → ((r : ℕ) → r < i → q r ≡ get_or l r 0) → get_or l i 0 ≤ q i
      low q hq e f i li before =
          ⊎_elim
          (λ a. absurd (omega (arith, own)))
          (λ a. ⊎_elim
          (λ d. absurd (omega (arith, stand)))
          (λ d.
          let z = lex_low d.1 i (omega (arith, so.0)) (λ r lr. get_or-tab₀ q n r 0 (omega arith) ∙ before r lr) in
          omega (arith, get_or-tab₀ q n i 0 li))
          a.1)
          (b q hq)

  module _ (h : n ≤ m) where
    whole : Whole (columns_of (best c s m n 0 [])) (candidate_total (best c s m n 0 []))
    whole = whole_of h (best c s m n 0 []) (best_sound c s m n 0 []) all_beaten

    pub found_length : length (columns_of (best c s m n 0 [])) ≡ n
    found_length = whole.size

    pub found_is : Foremost n m c s (λ i. get_or (columns_of (best c s m n 0 [])) i 0)
    found_is = whole.is_foremost

    pub found_total : candidate_total (best c s m n 0 []) ≡ total n c (λ i. get_or (columns_of (best c s m n 0 [])) i 0)
    found_total = whole.its_total

    pub found_only : (l : List ℕ) → length l ≡ n → Foremost n m c s (λ k. get_or l k 0) → l ≡ columns_of (best c s m n 0 [])
    found_only l size hl =
        ext_get_or 0 l (columns_of (best c s m n 0 [])) (size ∙ sym found_length) (λ i li. same_columns hl found_is i (omega arith))
