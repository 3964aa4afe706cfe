-- What the recursion finds beats every choice: a lower total, or the same total and fewer cars standing, or both the same and columns that come
-- first. Assumes nothing.
use Rattle.std.specs.Prelude.{◌≡◌, refl, Bool, true, false, cond, List, [], ◌∷◌, ◌⊎◌, length}
use Rattle.std.proofs.Common.{sym, true≢false, inl, inr, arith, eq-eqb, ne_eqb, lt-ltb, le-ltb, ltb-true, ltb-false}
use Rattle.std.proofs.Math.Logic.{⊎_elim}
use Prim.Native.Nat.{ℕ, zero, suc, ◌+◌, ◌≤◌, ◌<◌}
use Rattle.laws.specs.Bools.{same?, less?}
use Rattle.assignment_problem.specs.Recursion.{Candidate, none, some, before, better, front, is_in, scan, best}

-- ---- choices as lists

unfoldable pub cost : (ℕ → ℕ → ℕ) → ℕ → List ℕ → ℕ
cost c i [] = 0
cost c i (j ∷ js) = c i j + cost c (suc i) js

pub data Fit (m : ℕ) : List ℕ → List ℕ → Type 0 where
  fnil : {taken : List ℕ} → Fit m taken []
  fcons : {taken : List ℕ} {j : ℕ} {js : List ℕ} → j < m → is_in j taken ≡ false → Fit m (j ∷ taken) js → Fit m taken (j ∷ js)

-- the first list has the lower column at the first place where they differ
pub data Lex : List ℕ → List ℕ → Type 0 where
  lnil : Lex [] []
  lless : {j k : ℕ} {js ks : List ℕ} → j < k → Lex (j ∷ js) (k ∷ ks)
  lsame : {j : ℕ} {js ks : List ℕ} → Lex js ks → Lex (j ∷ js) (j ∷ ks)

-- ---- the best beats every choice

abbrev pub Beats : Candidate → ℕ → ℕ → List ℕ → Type 0
Beats none s y l = ⊥
Beats (some t x k) s y l = (t < s) ⊎ ((t ≡ s) × ((x < y) ⊎ ((x ≡ y) × Lex k l)))

-- a total t with x standing is no worse than a total s with y
abbrev NoWorse : ℕ → ℕ → ℕ → ℕ → Type 0
NoWorse t x s y = (t ≤ s) × (t ≡ s → x ≤ y)

beats_le : (t x s y : ℕ) (k l : List ℕ) → Beats (some t x k) s y l → NoWorse t x s y
beats_le t x s y k l b =
    ⊎_elim (λ a. (omega arith, λ e. omega arith)) (λ a. (omega arith, λ e. ⊎_elim (λ d. omega arith) (λ d. omega arith) a.1)) b

before_no : (t x s y : ℕ) → before t x s y ≡ false → NoWorse s y t x
before_no t x s y h = ⊎_elim
    (λ (l : t < s). absurd (true≢false (rw (lt-ltb t s l) at h)))
    (λ (g : s ≤ t). (g, λ e. ltb-false x y (rw (le-ltb t s g, eq-eqb t s (sym e)) at h)))
    (less? t s)

before_yes : (t x s y : ℕ) → before t x s y ≡ true → (t ≤ s) × (t ≡ s → x < y)
before_yes t x s y h = ⊎_elim
    (λ (l : t < s). (omega arith, λ e. omega arith))
    (λ (g : s ≤ t). ⊎_elim
    (λ (e : t ≡ s). (omega arith, λ q. ltb-true x y (rw (le-ltb t s g, eq-eqb t s e) at h)))
    (λ ne. absurd (true≢false (sym (rw (le-ltb t s g, ne_eqb t s ne) at h))))
    (same? t s))
    (less? t s)

better_left : (a b : Candidate) (s y : ℕ) (l : List ℕ) → Beats a s y l → Beats (better a b) s y l
better_left none b s y l h = absurd h
better_left (some t x k) none s y l h = h
better_left (some t x k) (some t' x' k') s y l h = go (before t' x' t x) refl
  where
    go : (v : Bool) → before t' x' t x ≡ v → Beats (cond v (some t' x' k') (some t x k)) s y l
    go true e =
        let a = before_yes t' x' t x e in
        let b = beats_le t x s y k l h in
        ⊎_elim (λ d. inl d)
        (λ d. let u = a.1 (omega arith) in let w = b.1 (omega arith) in inr (omega arith, inl (omega arith))) (less? t' s)
    go false e = h

-- every list's first column is j; is below j
abbrev HeadIs : ℕ → Candidate → Type 0
HeadIs j none = Unit {0}
HeadIs j (some t x []) = ⊥
HeadIs j (some t x (h ∷ hs)) = h ≡ j

abbrev HeadBelow : ℕ → Candidate → Type 0
HeadBelow j none = Unit {0}
HeadBelow j (some t x []) = ⊥
HeadBelow j (some t x (h ∷ hs)) = h < j

better_right : (a b : Candidate) (s y j : ℕ) (l : List ℕ) → HeadBelow j a → Beats b s y (j ∷ l) → Beats (better a b) s y (j ∷ l)
better_right none b s y j l h w = w
better_right (some t x k) none s y j l h w = absurd w
better_right (some t x []) (some t' x' k') s y j l h w = absurd h
better_right (some t x (i ∷ is)) (some t' x' k') s y j l h w = go (before t' x' t x) refl
  where
    go : (v : Bool) → before t' x' t x ≡ v → Beats (cond v (some t' x' k') (some t x (i ∷ is))) s y (j ∷ l)
    go true e = w
    go false e =
        let a = before_no t' x' t x e in
        let b = beats_le t' x' s y k' (j ∷ l) w in
        ⊎_elim (λ d. inl d)
        (λ d.
        let u = a.1 (omega arith) in
        let v = b.1 (omega arith) in
        inr (omega arith, ⊎_elim (λ f. inl f) (λ f. inr (omega arith, lless h)) (less? x y)))
        (less? t s)

below_suc : (j : ℕ) (a : Candidate) → HeadBelow j a → HeadBelow (suc j) a
below_suc j none h = tt
below_suc j (some t x []) h = h
below_suc j (some t x (i ∷ is)) h = omega arith

is_below : (j : ℕ) (a : Candidate) → HeadIs j a → HeadBelow (suc j) a
is_below j none h = tt
is_below j (some t x []) h = h
is_below j (some t x (i ∷ is)) h = omega arith

better_below : (j : ℕ) (a b : Candidate) → HeadBelow j a → HeadBelow j b → HeadBelow j (better a b)
better_below j none b p q = q
better_below j (some t x l) none p q = p
better_below j (some t x l) (some s y k) p q = go (before s y t x)
  where
    go : (v : Bool) → HeadBelow j (cond v (some s y k) (some t x l))
    go true = q
    go false = p

module _ (f : ℕ → Candidate) (heads : (j : ℕ) → HeadIs j (f j)) where
  scan_below : (m : ℕ) → HeadBelow m (scan f m)
  unfolding scan
  scan_below zero = tt
  scan_below (suc m) = better_below (suc m) (scan f m) (f m) (below_suc m (scan f m) (scan_below m)) (is_below m (f m) (heads m))

  scan_beats : (m j s y : ℕ) (l : List ℕ) → j < m → Beats (f j) s y (j ∷ l) → Beats (scan f m) s y (j ∷ l)
  unfolding scan
  scan_beats zero j s y l h b = absurd (omega arith)
  scan_beats (suc m) j s y l h b =
      ⊎_elim
      (λ e. rw e (better_right (scan f m) (f m) s y m l (scan_below m) (rw e at b)))
      (λ ne. better_left (scan f m) (f m) s y (j ∷ l) (scan_beats m j s y l (omega arith) b))
      (same? j m)

front_beats : (z w j : ℕ) (a : Candidate) (s y : ℕ) (l : List ℕ) → Beats a s y l → Beats (front z w j a) (z + s) (w + y) (j ∷ l)
front_beats z w j none s y l b = b
front_beats z w j (some t x k) s y l b =
    ⊎_elim (λ d. inl (omega arith))
    (λ d. inr (omega arith, ⊎_elim (λ e. inl (omega arith)) (λ e. inr (omega arith, lsame e.1)) d.1)) b

front_head : (z w j : ℕ) (a : Candidate) → HeadIs j (front z w j a)
front_head z w j none = tt
front_head z w j (some t x k) = refl

guard_head : (v : Bool) (j : ℕ) (a : Candidate) → HeadIs j a → HeadIs j (cond v none a)
guard_head true j a h = tt
guard_head false j a h = h

pub best_beats : (c s : ℕ → ℕ → ℕ) (m i : ℕ) {taken q : List ℕ} → Fit m taken q
    → Beats (best c s m (length q) i taken) (cost c i q) (cost s i q) q
unfolding best cost
best_beats c s m i fnil = inr (refl, inr (refl, lnil))
best_beats c s m i (fcons {taken = taken} {j = j} {js = js} lj free rest) =
    let after : ℕ → Candidate = λ x. best c s m (length js) (suc i) (x ∷ taken) in
    scan_beats
    (λ x. cond (is_in x taken) none (front (c i x) (s i x) x (after x)))
    (λ x. guard_head (is_in x taken) x (front (c i x) (s i x) x (after x)) (front_head (c i x) (s i x) x (after x)))
    m j (c i j + cost c (suc i) js) (s i j + cost s (suc i) js) js lj
    (rw free (front_beats (c i j) (s i j) j (after j) (cost c (suc i) js) (cost s (suc i) js) js (best_beats c s m (suc i) rest)))
