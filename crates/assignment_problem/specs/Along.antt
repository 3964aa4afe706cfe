-- Sums along a choice: at most the sum over all columns, and all of it where nothing stands on the columns not chosen. Assumes nothing.
use Rattle.std.specs.Prelude.{◌≡◌, ℕ, zero, suc, ◌≤◌, ◌<◌}
use Rattle.std.proofs.Common.{sym, ap, ◌∙◌, ⊎_elim, arith}
use Rattle.laws.specs.Bools.{same?}
use Rattle.laws.specs.Sums.{sum, sum_cong, sum-zero, upd, upd_same, upd_other, sum_upd}
use Rattle.assignment_problem.specs.Choice.{IsChoice}

pub fewer : {n m : ℕ} {p : ℕ → ℕ} → IsChoice (suc n) m p → IsChoice n m p
fewer h = record { within = λ k l. h.within k (omega arith); distinct = λ a b la lb e. h.distinct a b (omega arith) (omega arith) e }

-- what is summed along a choice is at most the sum over all columns
pub along_le : (n m : ℕ) (p : ℕ → ℕ) (f : ℕ → ℕ) → IsChoice n m p → sum n (λ k. f (p k)) ≤ sum m f
unfolding sum
along_le zero m p f h = omega arith
along_le (suc n) m p f h =
    let g : ℕ → ℕ = upd f (p n) 0 in
    let kept : sum n (λ k. f (p k)) ≡ sum n (λ k. g (p k)) =
    sum_cong n (λ k l. sym (upd_other f (p n) 0 (p k) (λ e. let q = h.distinct k n (omega arith) (omega arith) e in omega arith))) in
    omega (arith, kept, along_le n m p g (fewer h), sum_upd m f (p n) (h.within n (omega arith)))

-- and all of that sum where f is 0 at every column not chosen
pub along_eq : (n m : ℕ) (p : ℕ → ℕ) (f : ℕ → ℕ) → IsChoice n m p
    → ((j : ℕ) → j < m → ((k : ℕ) → k < n → p k ≡ j → ⊥) → f j ≡ 0) → sum n (λ k. f (p k)) ≡ sum m f
unfolding sum
along_eq zero m p f h z = sym (sum-zero m (λ j l. z j l (λ k a. absurd (omega arith))))
along_eq (suc n) m p f h z =
    let g : ℕ → ℕ = upd f (p n) 0 in
    let kept : sum n (λ k. f (p k)) ≡ sum n (λ k. g (p k)) =
    sum_cong n (λ k l. sym (upd_other f (p n) 0 (p k) (λ e. let q = h.distinct k n (omega arith) (omega arith) e in omega arith))) in
    let rest : sum n (λ k. g (p k)) ≡ sum m g = along_eq n m p g (fewer h)
    (λ j l no-k. ⊎_elim
    (λ e. upd_same f (p n) 0 j e)
    (λ ne. upd_other f (p n) 0 j ne ∙ z j l (λ k lk e. ⊎_elim (λ q. ne (sym e ∙ ap p q)) (λ q. no-k k (omega arith) e) (same? k n)))
    (same? j (p n))) in
    omega (arith, kept, rest, sum_upd m f (p n) (h.within n (omega arith)))
