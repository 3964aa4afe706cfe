-- Lists by index: a table of f 0 .. f (n - 1), rows of such tables, and the indices that pass a test. A buffer that was filled from its front is
-- a table followed by what it held past it: tab f n ++ drop n entry. Assumes nothing.
use Rattle.std.specs.Prelude.{◌≡◌, Bool, cond, take, set}
use Rattle.std.proofs.Math.Path.{refl, sym, ap, ap₂, subst}
use Rattle.std.proofs.Common.{◌∙◌, add-one, mul-le-mul_right, length-drop, drop_of_length-le, drop-cons, get_or-drop, ext_get_or}
use Rattle.std.proofs.Math.Bool.{true, false}
use mathlib.Core.List.{List, [], ◌∷◌, ◌++◌, append_assoc, append-nil}
use Rattle.std.proofs.Math.Logic.{⊎_elim}
use Prim.Native.Nat.{ℕ, zero, suc, ◌+◌, ◌-◌, ◌*◌, ◌≤◌, ◌<◌}
use Rattle.std.proofs.Math.Nat.{suc-mul}
use native.Mathlib.Omega.{arith}
use Rattle.std.proofs.Math.ListN.{length, get_or, drop, length-append, get_or-append}
use Rattle.std.proofs.lemmas.List.{set_at}
use Rattle.std.proofs.Math.Seq.{get_or-append-add, drop-drop, take_at, drop_at, get_or_at}
use Rattle.laws.specs.Bools.{bit, same?, less?}
use Rattle.laws.specs.Folds.{count, nth, nth_here, nth_before}

module _ {A : Type 0} where
  -- f 0, f 1, .. f (n - 1)
  unfoldable pub tab : (ℕ → A) → ℕ → List A
  tab f zero = []
  tab f (suc n) = tab f n ++ (f n ∷ [])

  -- n rows of w: f 0 0, f 0 1, .. f (n - 1) (w - 1)
  unfoldable pub tabs : (ℕ → ℕ → A) → ℕ → ℕ → List A
  tabs f w zero = []
  tabs f w (suc n) = tabs f w n ++ tab (f n) w

-- the numbers below n that pass, rising
unfoldable pub filtered : (ℕ → Bool) → ℕ → List ℕ
filtered p zero = []
filtered p (suc n) = cond (p n) (filtered p n ++ (n ∷ [])) (filtered p n)

-- ---- tables

module _ {A : Type 0} where
  pub length-tab : (f : ℕ → A) (n : ℕ) → length (tab f n) ≡ n
  unfolding tab
  length-tab f zero = refl
  length-tab f (suc n) = simp length-append (omega (arith, length-tab f n))

  pub tab_cong : (f g : ℕ → A) (n : ℕ) → ((k : ℕ) → k < n → f k ≡ g k) → tab f n ≡ tab g n
  unfolding tab
  tab_cong f g zero h = refl
  tab_cong f g (suc n) h =
      ap₂ (λ (x : List A) (y : A). x ++ (y ∷ [])) (tab_cong f g n (λ k l. h k (omega arith))) (h n (omega arith))

  -- the first entry, and the table of the rest
  pub tab_front : (f : ℕ → A) (n : ℕ) → tab f (suc n) ≡ f 0 ∷ tab (λ k. f (suc k)) n
  unfolding tab
  tab_front f zero = refl
  tab_front f (suc n) = ap (λ (l : List A). l ++ (f (suc n) ∷ [])) (tab_front f n)

  -- an entry of the table, and of what follows it
  pub get_or-tab : (f : ℕ → A) (n k : ℕ) (r : List A) (d : A) → k < n → get_or (tab f n ++ r) k d ≡ f k
  unfolding tab
  get_or-tab f zero k r d h = absurd (omega arith)
  get_or-tab f (suc n) k r d h =
      ap (λ (l : List A). get_or l k d) (append_assoc (tab f n) (f n ∷ []) r)
      ∙ ⊎_elim
      (λ (e : k ≡ n). get_or_at (tab f n) (f n) r d k (length-tab f n ∙ sym e) ∙ ap f (sym e))
      (λ ne. get_or-tab f n k (f n ∷ r) d (omega arith))
      (same? k n)

  pub get_or-tab₀ : (f : ℕ → A) (n k : ℕ) (d : A) → k < n → get_or (tab f n) k d ≡ f k
  get_or-tab₀ f n k d h = ap (λ (l : List A). get_or l k d) (sym (append-nil (tab f n))) ∙ get_or-tab f n k [] d h

  pub get_d_past : (f : ℕ → A) (n k : ℕ) (r : List A) (d : A) → n ≤ k → get_or (tab f n ++ drop n r) k d ≡ get_or r k d
  get_d_past f n k r d h =
      let a : length (tab f n) + (k - n) ≡ k = omega (arith, length-tab f n) in
      let b : n + (k - n) ≡ k = omega arith in
      ap (λ (x : ℕ). get_or (tab f n ++ drop n r) x d) (sym a) ∙ get_or-append-add (tab f n) (drop n r) (k - n) d ∙ get_or-drop n r (k - n) d
      ∙ ap (λ (x : ℕ). get_or r x d) b

  -- a store at the end of a front that is p: the front is one longer
  pub set_next : (p : List A) (r₀ r : List A) (n : ℕ) (v : A) → length p ≡ n → n < length r₀ → r ≡ p ++ drop n r₀
      → set r n v ≡ (p ++ (v ∷ [])) ++ drop (n + 1) r₀
  set_next p r₀ r n v e h d =
      ap (λ (l : List A). set l n v) (d ∙ ap (λ (l : List A). p ++ l) (drop-cons r₀ n v h))
      ∙ set_at p (get_or r₀ n v) (drop (suc n) r₀) v n e
      ∙ sym (append_assoc p (v ∷ []) (drop (suc n) r₀))
      ∙ ap (λ (k : ℕ). (p ++ (v ∷ [])) ++ drop k r₀) (sym (add-one n))

  -- a loop that fills a buffer: the next entry
  pub tab_next : (f : ℕ → A) (r₀ r : List A) (n : ℕ) (v : A) → n < length r₀ → r ≡ tab f n ++ drop n r₀ → v ≡ f n
      → set r n v ≡ tab f (n + 1) ++ drop (n + 1) r₀
  unfolding tab
  tab_next f r₀ r n v h d e =
      let z : tab f n ++ (v ∷ []) ≡ tab f (n + 1) = rw (e, add-one) in
      set_next (tab f n) r₀ r n v (length-tab f n) h d ∙ ap (λ (l : List A). l ++ drop (n + 1) r₀) z

  -- a buffer that is filled to its end
  pub tab_full : (f : ℕ → A) (r₀ r : List A) (n : ℕ) → n ≡ length r₀ → r ≡ tab f n ++ drop n r₀ → r ≡ tab f n
  tab_full f r₀ r n e d = d ∙ ap (λ (l : List A). tab f n ++ l) (drop_of_length-le r₀ {i = n} (omega arith)) ∙ append-nil (tab f n)

  -- a list with a new front of the same length is as long as it was
  pub front_length : (p m₀ m : List A) (a : ℕ) → length p ≡ a → a ≤ length m₀ → m ≡ p ++ drop a m₀ → length m ≡ length m₀
  front_length p m₀ m a e h d = rw d (simp (length-append, length-drop) (omega arith))

module _ {A : Type 0} where
  pub tab-length : (f : ℕ → A) (a : ℕ) (m₀ m : List A) → a ≤ length m₀ → m ≡ tab f a ++ drop a m₀ → length m ≡ length m₀
  tab-length f a m₀ m h d = front_length (tab f a) m₀ m a (length-tab f a) h d

  -- a list whose entries are f's is its table
  pub is_tab : (f : ℕ → A) (n : ℕ) (l₀ l : List A) (d : A) → n ≤ length l₀ → length l ≡ length l₀
      → ((k : ℕ) → k < n → get_or l k d ≡ f k)
      → ((k : ℕ) → n ≤ k → get_or l k d ≡ get_or l₀ k d) → l ≡ tab f n ++ drop n l₀
  is_tab f n l₀ l d h e a b = ext_get_or d l (tab f n ++ drop n l₀) (simp (length-append, length-drop) (omega (arith, length-tab f n)))
      (λ k lk. ⊎_elim
      (λ (x : k < n). a k x ∙ sym (get_or-tab f n k (drop n l₀) d x))
      (λ (x : n ≤ k). b k x ∙ sym (get_d_past f n k l₀ d x))
      (less? k n))

-- ---- rows

pub mul_next : (i w : ℕ) → (i + 1) * w ≡ i * w + w
mul_next i w = rw add-one (omega (arith, suc-mul i w))

-- a row ends within its rows
pub row_in : (r n w : ℕ) → r < n → r * w + w ≤ n * w
row_in r n w h = rw (← suc-mul r w) (mul-le-mul_right w h)

module _ {A : Type 0} where
  pub length-tabs : (f : ℕ → ℕ → A) (w n : ℕ) → length (tabs f w n) ≡ n * w
  unfolding tabs
  length-tabs f w zero = omega arith
  length-tabs f w (suc n) = simp (length-append, length-tab) (omega (arith, length-tabs f w n, suc-mul n w))

  pub tabs_cong : (f g : ℕ → ℕ → A) (w n : ℕ) → ((i : ℕ) → i < n → (k : ℕ) → k < w → f i k ≡ g i k)
      → tabs f w n ≡ tabs g w n
  unfolding tabs
  tabs_cong f g w zero h = refl
  tabs_cong f g w (suc n) h =
      ap₂ (λ (x y : List A). x ++ y) (tabs_cong f g w n (λ i l. h i (omega arith))) (tab_cong (f n) (g n) w (h n (omega arith)))

  -- a row that is lent and comes back filled: the matrix has a row more
  pub tabs_next : (f : ℕ → ℕ → A) (w i a k n : ℕ) (m₀ m ys : List A) → a ≡ i * w → m ≡ tabs f w i ++ drop a m₀
      → k ≡ w → ys ≡ tab (f i) n → n ≡ w
      → take a m ++ (ys ++ drop k (drop a m)) ≡ tabs f w (i + 1) ++ drop (a + w) m₀
  unfolding tabs
  tabs_next f w i a k n m₀ m ys e d x y z =
      let l : length (tabs f w i) ≡ a = length-tabs f w i ∙ sym e in
      rw (d, x, take_at (tabs f w i) (drop a m₀) a, drop_at (tabs f w i) (drop a m₀) a, drop-drop w a m₀, y, z, add-one)
      (sym (append_assoc (tabs f w i) (tab (f i) w) (drop (a + w) m₀)))

  pub tabs-length : (f : ℕ → ℕ → A) (w i a : ℕ) (m₀ m : List A) → a ≡ i * w → a ≤ length m₀ → m ≡ tabs f w i ++ drop a m₀
      → length m ≡ length m₀
  tabs-length f w i a m₀ m e h d = front_length (tabs f w i) m₀ m a (length-tabs f w i ∙ sym e) h d

  -- a cell of the rows
  pub get_or-tabs : (f : ℕ → ℕ → A) (w n i k : ℕ) (r : List A) (d : A) → i < n → k < w → get_or (tabs f w n ++ r) (i * w + k) d ≡ f i k
  unfolding tabs
  get_or-tabs f w zero i k r d h l = absurd (omega arith)
  get_or-tabs f w (suc n) i k r d h l =
      ap (λ (z : List A). get_or z (i * w + k) d) (append_assoc (tabs f w n) (tab (f n) w) r)
      ∙ ⊎_elim
      (λ (e : i ≡ n).
      rw e
      (ap (λ (m : ℕ). get_or (tabs f w n ++ (tab (f n) w ++ r)) (m + k) d) (sym (length-tabs f w n))
      ∙ get_or-append-add (tabs f w n) (tab (f n) w ++ r) k d ∙ get_or-tab (f n) w k r d l))
      (λ ne. get_or-tabs f w n i k (tab (f n) w ++ r) d (omega arith) l)
      (same? i n)

module _ {A : Type 0} where
  -- what holds of every f i k holds of every cell
  pub tabs_every : (P : A → Type 0) (f : ℕ → ℕ → A) (w n : ℕ) (d : A) → ((i : ℕ) → i < n → (k : ℕ) → k < w → P (f i k))
      → (k : ℕ) → k < n * w → P (get_or (tabs f w n) k d)
  unfolding tabs
  tabs_every P f w zero d h k l = absurd (omega arith)
  tabs_every P f w (suc n) d h k l =
      let size : length (tabs f w n) ≡ n * w = length-tabs f w n in
      ⊎_elim
      (λ (lt : k < n * w).
      subst P (sym (get_or-append (tabs f w n) (tab (f n) w) d k (omega arith))) (tabs_every P f w n d (λ i li. h i (omega arith)) k lt))
      (λ (ge : n * w ≤ k).
      let j : k - n * w < w = omega (arith, suc-mul n w) in
      let e : length (tabs f w n) + (k - n * w) ≡ k = omega arith in
      subst P
      (sym (ap (λ (x : ℕ). get_or (tabs f w n ++ tab (f n) w) x d) (sym e) ∙ get_or-append-add (tabs f w n) (tab (f n) w) (k - n * w) d
      ∙ get_or-tab₀ (f n) w (k - n * w) d j))
      (h n (omega arith) (k - n * w) j))
      (less? k (n * w))

-- ---- the indices that pass, in a list

module _ (p : ℕ → Bool) where
  pub length_filtered : (n : ℕ) → length (filtered p n) ≡ count p n
  unfolding filtered count
  length_filtered zero = refl
  length_filtered (suc n) = by (p n) (length_filtered n)
    where
      by : (b : Bool) → length (filtered p n) ≡ count p n → length (cond b (filtered p n ++ (n ∷ [])) (filtered p n)) ≡ count p n + bit b
      by true e = simp length-append (omega arith)
      by false e = omega arith

  pub filtered_yes : (n : ℕ) → p n ≡ true → filtered p (n + 1) ≡ filtered p n ++ (n ∷ [])
  unfolding filtered
  filtered_yes n e = rw (add-one, e)

  pub filtered_no : (n : ℕ) → p n ≡ false → filtered p (n + 1) ≡ filtered p n
  unfolding filtered
  filtered_no n e = rw (add-one, e)

  -- a loop that lists them: index j is one of them, or not
  pub filtered_take : (j m : ℕ) (s₀ s : List ℕ) → p j ≡ true → m ≡ count p j → m < length s₀ → s ≡ filtered p j ++ drop m s₀
      → set s m j ≡ filtered p (j + 1) ++ drop (m + 1) s₀
  filtered_take j m s₀ s t e h d =
      set_next (filtered p j) s₀ s m j (length_filtered j ∙ sym e) h d ∙ ap (λ (l : List ℕ). l ++ drop (m + 1) s₀) (sym (filtered_yes j t))

  pub filtered_skip : (j m : ℕ) (s₀ s : List ℕ) → p j ≡ false → s ≡ filtered p j ++ drop m s₀
      → s ≡ filtered p (j + 1) ++ drop m s₀
  filtered_skip j m s₀ s t d = d ∙ ap (λ (l : List ℕ). l ++ drop m s₀) (sym (filtered_no j t))

  -- the c-th of them is the c-th index that passes
  pub get_or_filtered : (n c : ℕ) (r : List ℕ) → c < count p n → get_or (filtered p n ++ r) c 0 ≡ nth p n c
  unfolding filtered count
  get_or_filtered zero c r h = absurd (omega arith)
  get_or_filtered (suc n) c r h = by (p n) refl h (λ s l. get_or_filtered n c s l)
    where
      up : nth p (suc n) c ≡ nth p (n + 1) c
      up = ap (λ (x : ℕ). nth p x c) (sym (add-one n))

      by : (b : Bool) → p n ≡ b → c < count p n + bit b → ((s : List ℕ) → c < count p n → get_or (filtered p n ++ s) c 0 ≡ nth p n c)
          → get_or (cond b (filtered p n ++ (n ∷ [])) (filtered p n) ++ r) c 0 ≡ nth p (suc n) c
      by true e k f =
          ap (λ (l : List ℕ). get_or l c 0) (append_assoc (filtered p n) (n ∷ []) r)
          ∙ ⊎_elim
          (λ (d : c ≡ count p n).
          get_or_at (filtered p n) n r 0 c (length_filtered n ∙ sym d) ∙ sym (up ∙ ap (nth p (n + 1)) d ∙ nth_here p n e))
          (λ ne. let l : c < count p n = omega arith in f (n ∷ r) l ∙ sym (up ∙ nth_before p n c l))
          (same? c (count p n))
      by false e k f = let l : c < count p n = omega arith in f r l ∙ sym (up ∙ nth_before p n c l)

  -- an index that passes stands at its place: as many as pass before it
  pub get_or_place : (n j : ℕ) (r : List ℕ) → j < n → p j ≡ true → get_or (filtered p n ++ r) (count p j) 0 ≡ j
  unfolding filtered
  get_or_place zero j r h t = absurd (omega arith)
  get_or_place (suc n) j r h t =
      ⊎_elim
      (λ (e : j ≡ n).
      rw e
      (ap (λ (b : Bool). get_or (cond b (filtered p n ++ (n ∷ [])) (filtered p n) ++ r) (count p n) 0) (ap p (sym e) ∙ t)
      ∙ ap (λ (l : List ℕ). get_or l (count p n) 0) (append_assoc (filtered p n) (n ∷ []) r)
      ∙ get_or_at (filtered p n) n r 0 (count p n) (length_filtered n)))
      (λ ne. by (p n) (λ s. get_or_place n j s (omega arith) t))
      (same? j n)
    where
      by : (b : Bool) → ((s : List ℕ) → get_or (filtered p n ++ s) (count p j) 0 ≡ j)
          → get_or (cond b (filtered p n ++ (n ∷ [])) (filtered p n) ++ r) (count p j) 0 ≡ j
      by true f = ap (λ (l : List ℕ). get_or l (count p j) 0) (append_assoc (filtered p n) (n ∷ []) r) ∙ f (n ∷ r)
      by false f = f r
