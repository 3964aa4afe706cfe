-- A mask that is built stop by stop, up to the last one that it can have. Assumes nothing.
--   none_yet   before the first stop
--   one_more   a stop more
--   up_to      past the last stop that passes it is the whole mask
use Rattle.std.specs.Prelude.{ℕ, ◌+◌, ◌≤◌, ◌<◌, ◌^◌, ◌≡◌, refl, Bool, true, false, ◌&&◌, ◌||◌}
use Rattle.std.proofs.Math.Path.{sym, ap}
use Rattle.std.proofs.Common.{◌∙◌, arith}
use Rattle.std.proofs.Math.Bool.{and-true, and-false, or-false}
use Rattle.std.proofs.Math.Logic.{⊎_elim}
use Rattle.std.proofs.Math.Dec.{eqb, ltb}
use borrow.Author.Tests.{lt-ltb, le-ltb, eq-eqb, ne_eqb}
use Rattle.laws.specs.Bools.{less?, same?}
use Rattle.laws.specs.Folds.{none_any}
use Rattle.mask.specs.Mask.{has, built}
use Rattle.mask.specs.MaskLaws.{built_cong, built_of, has_built, none_built}

-- a mask with stop j, where b holds
pub with_here : (m j : ℕ) {r : ℕ} {b : Bool} → b ≡ true → r ≡ built (λ k. has m k || eqb k j) 64 → r ≡ built (λ k. has m k || (b && eqb k j)) 64
with_here m j t e = rw t e

pub with_none : (m j : ℕ) {b : Bool} → m < 2 ^ 64 → b ≡ false → m ≡ built (λ k. has m k || (b && eqb k j)) 64
with_none m j {b} small t = sym (built_of m small) ∙ built_cong (has m) (λ k. has m k || (b && eqb k j)) 64 (λ k l. rw t (sym (or-false (has m k))))

-- the stops below j that pass
unfoldable pub built_to : (ℕ → Bool) → ℕ → ℕ
built_to f j = built (λ k. ltb k j && f k) 64

module _ (f : ℕ → Bool) where
  pub none_yet : 0 ≡ built_to f 0
  unfolding built_to
  none_yet = sym (none_built (λ k. ltb k 0 && f k) 64 (none_any (λ k. ltb k 0 && f k) 64 (λ k l. rw (le-ltb k 0 (omega arith)))))

  pub one_more : (j m r : ℕ) {b : Bool} → m ≡ built_to f j → b ≡ f j → r ≡ built (λ k. has m k || (b && eqb k j)) 64 → r ≡ built_to f (j + 1)
  unfolding built_to
  one_more j m r {b} e eb er = er ∙ built_cong (λ k. has m k || (b && eqb k j)) (λ k. ltb k (j + 1) && f k) 64 step
    where
      before : (k : ℕ) → k < 64 → has m k ≡ (ltb k j && f k)
      before k l = ap (λ (x : ℕ). has x k) e ∙ has_built (λ i. ltb i j && f i) k l

      after : (k i : ℕ) → i ≤ k → (k ≡ i → ⊥) → i + 1 ≤ k
      after k i a n = ⊎_elim (λ (c : i < k). omega arith) (λ (c : k ≤ i). absurd (n (omega arith))) (less? i k)

      step : (k : ℕ) → k < 64 → (has m k || (b && eqb k j)) ≡ (ltb k (j + 1) && f k)
      step k l =
          ⊎_elim
          (λ (q : k ≡ j). rw (before k l, le-ltb k j (omega arith), eq-eqb k j q, lt-ltb k (j + 1) (omega arith), and-true b, eb, q) refl)
          (λ n. rw (before k l, ne_eqb k j n, and-false b, or-false (ltb k j && f k))
          (⊎_elim
          (λ (a : k < j). rw (lt-ltb k j a, lt-ltb k (j + 1) (omega arith)) refl)
          (λ (a : j ≤ k). let c : j + 1 ≤ k = after k j a n in rw (le-ltb k j a, le-ltb k (j + 1) c) refl)
          (less? k j)))
          (same? k j)

  pub up_to : (j m : ℕ) → m ≡ built_to f j → ((k : ℕ) → j ≤ k → k < 64 → f k ≡ false) → m ≡ built f 64
  unfolding built_to
  up_to j m e none =
      e ∙ built_cong (λ k. ltb k j && f k) f 64
      (λ k l. ⊎_elim
      (λ (a : k < j). rw (lt-ltb k j a) refl)
      (λ (a : j ≤ k). rw (none k a l, le-ltb k j a) refl)
      (less? k j))
