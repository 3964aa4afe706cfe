-- What prices show of a choice: weak duality and complementary slackness. Assumes nothing.
use Rattle.std.specs.Prelude.{◌≡◌, ℕ, ◌+◌, ◌≤◌, ◌<◌}
use Rattle.std.proofs.Common.{sym, ⊎_elim}
use native.Mathlib.Omega.{arith}
use Rattle.laws.specs.Bools.{same?}
use Rattle.laws.specs.Sums.{sum, sum_mono, sum_cong, sum-add, sum_lt, sum_upd, upd, upd_other}
use Rattle.assignment_problem.specs.Choice.{IsChoice, total}
use Rattle.assignment_problem.specs.Along.{along_le, along_eq}
use Rattle.assignment_problem.specs.Prices.{Feasible, Tight}

module _ {n m : ℕ} {c : ℕ → ℕ → ℕ} {p u w : ℕ → ℕ} (hp : IsChoice n m p) (ht : Tight n m c p u w) where
  -- the prices' sum is the chosen total and the sum of the columns' prices
  worth : sum n u ≡ total n c p + sum m w
  unfolding total
  worth =
      omega (
        arith,
        sum_cong n {f = u} {g = λ k. c k (p k) + w (p k)} (λ k l. ht.tight k l),
        sum-add n (λ k. c k (p k)) (λ k. w (p k)),
        along_eq n m p w hp ht.unused,
      )

  module _ (q : ℕ → ℕ) (hq : IsChoice n m q) (under : (k : ℕ) → k < n → u k ≤ c k (q k) + w (q k)) where
    -- a choice that keeps the order along it costs no less
    pub least_along : total n c p ≤ total n c q
    unfolding total
    least_along =
        omega (
          arith,
          worth,
          sum_mono n {f = u} {g = λ k. c k (q k) + w (q k)} under,
          sum-add n (λ k. c k (q k)) (λ k. w (q k)),
          along_le n m q w hq,
        )

    -- and costs more where the order is strict at one row
    pub strict_along : (i : ℕ) → i < n → u i < c i (q i) + w (q i) → total n c p < total n c q
    unfolding total
    strict_along i l s =
        omega (
          arith,
          worth,
          sum_lt n {f = u} {g = λ k. c k (q k) + w (q k)} i l under s,
          sum-add n (λ k. c k (q k)) (λ k. w (q k)),
          along_le n m q w hq,
        )

  -- with prices in order everywhere, the choice is least
  pub tight_least : Feasible n m c u w → (q : ℕ → ℕ) → IsChoice n m q → total n c p ≤ total n c q
  tight_least h q hq = least_along q hq (λ k l. h k (q k) l (hq.within k l))

  -- complementary slackness: every other choice of that total is tight with the same prices
  pub tight_every : Feasible n m c u w → (q : ℕ → ℕ) → IsChoice n m q → total n c q ≡ total n c p → Tight n m c q u w
  unfolding total
  tight_every h q hq e = record { tight = at; unused = free }
    where
      along : (k : ℕ) → k < n → u k ≤ c k (q k) + w (q k)
      along k l = h k (q k) l (hq.within k l)

      at : (i : ℕ) → i < n → u i ≡ c i (q i) + w (q i)
      at i l = ⊎_elim (λ q1. q1)
          (λ ne. absurd (let z : total n c p < total n c q = strict_along q hq along i l (let a = along i l in omega arith) in omega arith))
          (same? (u i) (c i (q i) + w (q i)))

      free : (j : ℕ) → j < m → ((k : ℕ) → k < n → q k ≡ j → ⊥) → w j ≡ 0
      free j l no-k =
          let g : ℕ → ℕ = upd w j 0 in
          let same : sum n (λ k. w (q k)) ≡ sum n (λ k. g (q k)) = sum_cong n (λ k lk. sym (upd_other w j 0 (q k) (no-k k lk))) in
          omega (
            arith,
            worth,
            same,
            along_le n m q g hq,
            sum_upd m w j l,
            sum_cong n {f = u} {g = λ k. c k (q k) + w (q k)} at,
            sum-add n (λ k. c k (q k)) (λ k. w (q k)),
          )
