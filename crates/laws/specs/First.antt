-- The first index that passes a test. Assumes nothing.
use Rattle.std.specs.Prelude.{ℕ, ◌≤◌, ◌<◌, ◌≡◌, Bool, true, false, cond, ltb}
use Rattle.std.proofs.Common.{sym, ◌∙◌, arith, ltb-false, le-ltb}
use Rattle.std.proofs.Math.Logic.{⊎_elim}
use Rattle.laws.specs.Bools.{which, not_both, less?}
use Rattle.laws.specs.Counts.{count_none}
use Rattle.laws.specs.Folds.{any, count, nth, nth_count, nth_is, count_above, any_at, any_some, any_none, none_any, any_cong, nth_cong}

-- the first index below n that passes, n where none does
unfoldable pub first_index : (ℕ → Bool) → ℕ → ℕ
first_index p n = cond (any p n) (nth p n 0) n

module _ (p : ℕ → Bool) where
  pub first_end : (n : ℕ) → any p n ≡ false → first_index p n ≡ n
  unfolding first_index
  first_end n h = rw h

  pub first_at : (n i : ℕ) → i < n → any p i ≡ false → p i ≡ true → first_index p n ≡ i
  unfolding first_index
  first_at n i l h t =
      let z : count p i ≡ 0 = count_none p i (any_none p i h) in
      rw (any_at p n i l t, ← z) (nth_count p n i l t)

  -- what a first index is
  pub record IsFirst (n i : ℕ) : Type 0 where
    pub within : i ≤ n
    pub none_before : any p i ≡ false
    pub passes : i < n → p i ≡ true

  -- it is the only one
  pub first_only : (n i : ℕ) → IsFirst n i → first_index p n ≡ i
  first_only n i f =
      ⊎_elim
      (λ (l : i < n). first_at n i l f.none_before (f.passes l))
      (λ (g : n ≤ i). let e : i ≡ n = omega (arith, f.within) in first_end n (rw (← e) f.none_before) ∙ sym e)
      (less? i n)

  pub first_is : (n : ℕ) → IsFirst n (first_index p n)
  unfolding first_index
  first_is n =
      ⊎_elim
      (λ (t : any p n ≡ true).
      let (j, l, q) = any_some p n t in
      let r = nth_is p n 0 (omega (arith, count_above p j n l q)) in
      rw t
      (record {
        within = omega (arith, r.below);
        none_before =
            none_any p (nth p n 0) (λ k lk.
            ⊎_elim (λ (u : p k ≡ true). absurd (omega (arith, count_above p k (nth p n 0) lk u, r.place))) (λ u. u) (which (p k)));
        passes = λ m. r.passes;
      }))
      (λ (t : any p n ≡ false). rw t (record { within = omega arith; none_before = t; passes = λ m. absurd (omega arith) }))
      (which (any p n))

  -- none passes where it is n
  pub first_none : (n : ℕ) → ltb (first_index p n) n ≡ false → any p n ≡ false
  first_none n h =
      let f = first_is n in
      let e : first_index p n ≡ n = omega (arith, f.within, ltb-false (first_index p n) n h) in rw e at f.none_before

  pub none_first : (n : ℕ) → any p n ≡ false → ltb (first_index p n) n ≡ false
  none_first n h = rw (first_end n h) (le-ltb n n (omega arith))

pub first_cong : (p q : ℕ → Bool) (n : ℕ) → ((k : ℕ) → k < n → p k ≡ q k) → first_index p n ≡ first_index q n
unfolding first_index
first_cong p q n h = rw (any_cong p q n h, nth_cong p q n 0 h)

-- the first that passes one test is the first that passes another, where they agree up to it
pub first_agree : (p q : ℕ → Bool) (n m : ℕ) → first_index p n < n → first_index p n < m → ((k : ℕ) → k ≤ first_index p n → q k ≡ p k)
    → first_index q m ≡ first_index p n
first_agree p q n m l lm h =
    let f = first_is p n in
    first_at q m (first_index p n) lm
    (any_cong q p (first_index p n) (λ k lk. h k (omega arith)) ∙ f.none_before) (h (first_index p n) (omega arith) ∙ f.passes l)

-- it is not past one that passes
pub first_le : (p : ℕ → Bool) (n i : ℕ) → i < n → p i ≡ true → first_index p n ≤ i
first_le p n i l t =
    ⊎_elim
    (λ (g : i < first_index p n). absurd (not_both t (any_none p (first_index p n) (first_is p n).none_before i g)))
    (λ (g : first_index p n ≤ i). g)
    (less? i (first_index p n))
