-- Prices that are shifted by 1 on a set of columns (z is 1 there, 0 elsewhere) and the rows that have them: where they stay in order along a
-- choice q that gives row i a column from the other side of the set, q's total is larger. Assumes nothing.
use Rattle.std.specs.Prelude.{◌≡◌, ℕ, ◌+◌, ◌-◌, ◌≤◌, ◌<◌}
use Rattle.std.proofs.Common.{◌∙◌, ⊎_elim, arith}
use Rattle.laws.specs.Bools.{same?, less?}
use Rattle.assignment_problem.specs.Choice.{IsChoice, total}
use Rattle.assignment_problem.specs.Prices.{Tight, Feasible}
use Rattle.assignment_problem.proofs.PriceLaws.{strict_along}

module _ {n m : ℕ} {c : ℕ → ℕ → ℕ} {p u w : ℕ → ℕ}
    (hp : IsChoice n m p) (ht : Tight n m c p u w) (under : Feasible n m c u w)
    (i : ℕ) (li : i < n) (z : ℕ → ℕ) (one : (j : ℕ) → z j ≤ 1) (fixed : (r : ℕ) → r < i → z (p r) ≡ 0)
    (q : ℕ → ℕ) (hq : IsChoice n m q) (agree : (r : ℕ) → r < i → q r ≡ p r) where
  -- the columns with z 1 can be raised by 1, with the rows that have them
  pub raise : ((j : ℕ) → j < m → ((k : ℕ) → k < n → p k ≡ j → ⊥) → z j ≡ 0)
      → ((r y : ℕ) → i ≤ r → r < n → y < m → ((s : ℕ) → s < i → p s ≡ y → ⊥) → z (p r) ≡ 1 → z y ≡ 0 → u r < c r y + w y)
      → z (p i) ≡ 0 → z (q i) ≡ 1 → total n c p < total n c q
  raise free shut zi zq =
      strict_along hp up_tight q hq along i li (omega (arith, under i (q i) li (hq.within i li)))
    where
      up_tight : Tight n m c p (λ r. u r + z (p r)) (λ j. w j + z j)
      up_tight = record {
        tight = λ r l. omega (arith, ht.tight r l);
        unused = λ j l no-k. omega (arith, ht.unused j l no-k, free j l no-k);
      }

      along : (k : ℕ) → k < n → u k + z (p k) ≤ c k (q k) + (w (q k) + z (q k))
      along k l = ⊎_elim
          (λ (lt : k < i).
          let e : q k ≡ p k = agree k lt in
          rw e (omega (arith, ht.tight k l)))
          (λ (ge : i ≤ k).
          let y : q k < m = hq.within k l in
          let no-s : (s : ℕ) → s < i → p s ≡ q k → ⊥ = λ s ls e. let x : s ≡ k = hq.distinct s k (omega arith) l (agree s ls ∙ e) in omega arith in
          ⊎_elim
          (λ e0. omega (arith, under k (q k) l y))
          (λ n0. ⊎_elim
          (λ e1. omega (arith, shut k (q k) ge l y no-s (let o = one (p k) in omega arith) e1, one (p k)))
          (λ n1. omega (arith, under k (q k) l y, one (p k)))
          (same? (z (q k)) 0))
          (same? (z (p k)) 0))
          (less? k i)

  -- the columns with z 1, all above 0, can be lowered by 1, with the rows that have them
  pub lower : ((j : ℕ) → j < m → z j ≡ 1 → 0 < w j)
      → ((r y : ℕ) → i ≤ r → r < n → y < m → ((s : ℕ) → s < i → p s ≡ y → ⊥) → z (p r) ≡ 0 → z y ≡ 1 → u r < c r y + w y)
      → z (p i) ≡ 1 → z (q i) ≡ 0 → total n c p < total n c q
  lower above shut zi zq =
      strict_along hp down_tight q hq along i li
      (let a = above (p i) (hp.within i li) zi in omega (arith, under i (q i) li (hq.within i li), ht.tight i li))
    where
      pos : (j : ℕ) → j < m → z j ≤ w j
      pos j l = ⊎_elim (λ e0. omega arith) (λ n0. let a = above j l (let o = one j in omega arith) in omega (arith, one j)) (same? (z j) 0)

      down_tight : Tight n m c p (λ r. u r - z (p r)) (λ j. w j - z j)
      down_tight = record {
        tight = λ r l. omega (arith, ht.tight r l, pos (p r) (hp.within r l));
        unused = λ j l no-k. omega (arith, ht.unused j l no-k);
      }

      along : (k : ℕ) → k < n → u k - z (p k) ≤ c k (q k) + (w (q k) - z (q k))
      along k l = ⊎_elim
          (λ (lt : k < i).
          let e : q k ≡ p k = agree k lt in
          rw e (omega (arith, ht.tight k l, pos (p k) (hp.within k l))))
          (λ (ge : i ≤ k).
          let y : q k < m = hq.within k l in
          let no-s : (s : ℕ) → s < i → p s ≡ q k → ⊥ = λ s ls e. let x : s ≡ k = hq.distinct s k (omega arith) l (agree s ls ∙ e) in omega arith in
          ⊎_elim
          (λ e0. ⊎_elim
          (λ e1. omega (arith, under k (q k) l y))
          (λ n1. omega (arith, shut k (q k) ge l y no-s e0 (let o = one (q k) in omega arith), one (q k), pos (q k) y))
          (same? (z (q k)) 0))
          (λ n0. omega (arith, under k (q k) l y, one (q k), pos (q k) y, one (p k)))
          (same? (z (p k)) 0))
          (less? k i)
