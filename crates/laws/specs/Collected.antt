-- What the indices that pass a test give, as a list in order: how a buffer holds it, and that a walk over the list is the walk over all the indices
-- that skips those that do not pass. Assumes nothing.
use Rattle.std.specs.Prelude.{◌≡◌, Bool, ◌&&◌, ◌||◌, get_or, set}
use Rattle.std.proofs.Math.Path.{refl, sym, ap, ap₂}
use Rattle.std.proofs.Common.{◌∙◌, add-one}
use Rattle.std.proofs.Math.Bool.{true, false, cond, or-false}
use mathlib.Core.List.{List, [], ◌∷◌, ◌++◌, append_assoc}
use Prim.Native.Nat.{ℕ, zero, suc, ◌+◌, ◌<◌, ◌≤◌}
use Rattle.std.proofs.Math.Numerals.{unary_clauses}
use native.Mathlib.Omega.{arith}
use Rattle.std.proofs.Math.ListN.{length, drop, length-append}
use Rattle.std.proofs.lemmas.List.{get_or_at}
use Rattle.laws.specs.Bools.{bit}
use Rattle.laws.specs.Folds.{fold, fold_next, any, any_next, count}
use Rattle.laws.specs.Tables.{set_next, front_length}

module _ {A : Type 0} where
  -- f of the indices below n that pass, in order
  unfoldable pub collected : (ℕ → Bool) → (ℕ → A) → ℕ → List A
  collected p f zero = []
  collected p f (suc n) = cond (p n) (collected p f n ++ (f n ∷ [])) (collected p f n)

module _ {A : Type 0} (p : ℕ → Bool) (f : ℕ → A) where
  pub length_collected : (n : ℕ) → length (collected p f n) ≡ count p n
  unfolding collected count
  length_collected zero = refl
  length_collected (suc n) = by (p n) (length_collected n)
    where
      by : (b : Bool) → length (collected p f n) ≡ count p n → length (cond b (collected p f n ++ (f n ∷ [])) (collected p f n)) ≡ count p n
          + bit b
      by true e = simp length-append (omega arith)
      by false e = omega arith

  -- a loop that fills a buffer: index j passes, or not
  pub collected_take : (j m : ℕ) (s₀ s : List A) (v : A) → p j ≡ true → m ≡ count p j → m < length s₀
      → s ≡ collected p f j ++ drop m s₀ → v ≡ f j
      → set s m v ≡ collected p f (j + 1) ++ drop (m + 1) s₀
  unfolding collected
  collected_take j m s₀ s v t e h d w =
      let z : collected p f j ++ (v ∷ []) ≡ collected p f (j + 1) = rw (add-one, t, w) in
      set_next (collected p f j) s₀ s m v (length_collected j ∙ sym e) h d ∙ ap (λ (l : List A). l ++ drop (m + 1) s₀) z

  pub collected_skip : (j m : ℕ) (s₀ s : List A) → p j ≡ false → s ≡ collected p f j ++ drop m s₀
      → s ≡ collected p f (j + 1) ++ drop m s₀
  unfolding collected
  collected_skip j m s₀ s t d = rw (add-one, t) d

  pub collected_length : (j m : ℕ) (s₀ s : List A) → m ≡ count p j → m ≤ length s₀ → s ≡ collected p f j ++ drop m s₀
      → length s ≡ length s₀
  collected_length j m s₀ s e h d = front_length (collected p f j) s₀ s m (length_collected j ∙ sym e) h d

  -- a fold over the list, and one over the indices that skips
  pub fold_collected : {B : Type 0} (g : B → A → B) (b : B) (n : ℕ) (r : List A) (d : A)
      → fold (λ (x : B) (k : ℕ). g x (get_or (collected p f n ++ r) k d)) b (count p n) ≡ fold (λ (x : B) (k : ℕ). cond (p k) (g x (f k)) x) b n
  unfolding collected count fold
  fold_collected {B} g b zero r d = refl
  fold_collected {B} g b (suc n) r d = by (p n) (λ s. fold_collected g b n s d)
    where
      by : (c : Bool)
          → ((s : List A) → fold (λ (x : B) (k : ℕ). g x (get_or (collected p f n ++ s) k d)) b (count p n) ≡ fold
          (λ (x : B) (k : ℕ). cond (p k) (g x (f k)) x) b n)
          → fold (λ (x : B) (k : ℕ). g x (get_or (cond c (collected p f n ++ (f n ∷ [])) (collected p f n) ++ r) k d)) b (count p n + bit c)
          ≡ cond c (g (fold (λ (x : B) (k : ℕ). cond (p k) (g x (f k)) x) b n) (f n)) (fold (λ (x : B) (k : ℕ). cond (p k) (g x (f k)) x) b n)
      by true h =
          ap (λ (l : List A). fold (λ (x : B) (k : ℕ). g x (get_or l k d)) b (count p n + 1)) (append_assoc (collected p f n) (f n ∷ []) r)
          ∙ fold_next (λ (x : B) (k : ℕ). g x (get_or (collected p f n ++ (f n ∷ r)) k d)) b (count p n)
          ∙ ap₂ g (h (f n ∷ r)) (get_or_at (collected p f n) (f n) r d (count p n) (length_collected n))
      by false h = simp unary_clauses (h r)

  -- some entry of the list passes, some index passes both tests
  pub any_collected : (q : A → Bool) (n : ℕ) (r : List A) (d : A)
      → any (λ (k : ℕ). q (get_or (collected p f n ++ r) k d)) (count p n) ≡ any (λ (k : ℕ). p k && q (f k)) n
  unfolding collected count any
  any_collected q zero r d = refl
  any_collected q (suc n) r d = by (p n) (λ s. any_collected q n s d)
    where
      by : (c : Bool)
          → ((s : List A) → any (λ (k : ℕ). q (get_or (collected p f n ++ s) k d)) (count p n) ≡ any (λ (k : ℕ). p k && q (f k)) n)
          → any (λ (k : ℕ). q (get_or (cond c (collected p f n ++ (f n ∷ [])) (collected p f n) ++ r) k d)) (count p n + bit c)
          ≡ (any (λ (k : ℕ). p k && q (f k)) n || (c && q (f n)))
      by true h =
          ap (λ (l : List A). any (λ (k : ℕ). q (get_or l k d)) (count p n + 1)) (append_assoc (collected p f n) (f n ∷ []) r)
          ∙ any_next (λ (k : ℕ). q (get_or (collected p f n ++ (f n ∷ r)) k d)) (count p n)
          ∙ ap₂ (λ (x y : Bool). x || y) (h (f n ∷ r)) (ap q (get_or_at (collected p f n) (f n) r d (count p n) (length_collected n)))
      by false h = simp unary_clauses (h r ∙ sym (or-false _))

-- tests that agree below n, and values where they hold
pub collected_cong : {A : Type 0} (p q : ℕ → Bool) (f g : ℕ → A) (n : ℕ) → ((k : ℕ) → k < n → p k ≡ q k)
    → ((k : ℕ) → k < n → p k ≡ true → f k ≡ g k)
    → collected p f n ≡ collected q g n
unfolding collected
collected_cong p q f g zero h e = refl
collected_cong {A} p q f g (suc n) h e =
    by (p n) refl (collected_cong p q f g n (λ k l. h k (omega arith)) (λ k l. e k (omega arith)))
    ∙ ap (λ (b : Bool). cond b (collected q g n ++ (g n ∷ [])) (collected q g n)) (h n (omega arith))
  where
    by : (b : Bool) → p n ≡ b → collected p f n ≡ collected q g n
        → cond b (collected p f n ++ (f n ∷ [])) (collected p f n) ≡ cond b (collected q g n ++ (g n ∷ [])) (collected q g n)
    by true t c = ap₂ (λ (l : List A) (x : A). l ++ (x ∷ [])) c (e n (omega arith) t)
    by false t c = c
