-- The lowest columns among the least choices, where nobody is counted as standing: what the method is shown to find. Assumes nothing.
--   lowest_length lowest_is                 one column a row, and it is Lowest
--   lowest_tab                              whatever is Lowest has the recursion's columns
--   tab_within tab-total                    and columns in range, and the least total
use Rattle.std.specs.Prelude.{◌≡◌, List, ℕ, ◌≤◌, ◌<◌, length, get_or}
use Rattle.std.proofs.Math.Path.{sym, ap}
use Rattle.std.proofs.Common.{◌∙◌, arith, ext_get_or}
use Rattle.laws.specs.Sums.{sum_cong}
use Rattle.laws.specs.Tables.{tab, length-tab, get_or-tab₀}
use Rattle.assignment_problem.specs.Choice.{total, Lowest}
use Rattle.assignment_problem.specs.Recursion.{least_total, lowest}
use Rattle.assignment_problem.proofs.Found.{same_columns, found_length, found_is, found_total}
use Rattle.assignment_problem.proofs.Chosen.{least_total_any}

module _ (c : ℕ → ℕ → ℕ) (n m : ℕ) (h : n ≤ m) where
  pub lowest_length : length (lowest c n m) ≡ n
  unfolding lowest
  lowest_length = found_length c (λ i j. 0) n m h

  pub lowest_is : Lowest n m c (λ i. get_or (lowest c n m) i 0)
  unfolding lowest
  lowest_is = found_is c (λ i j. 0) n m h

  pub lowest_total : least_total c n m ≡ total n c (λ i. get_or (lowest c n m) i 0)
  unfolding lowest
  lowest_total = sym (least_total_any c n m h (λ i j. 0)) ∙ found_total c (λ i j. 0) n m h

  -- the table of its columns is the recursion's
  pub lowest_tab : (p : ℕ → ℕ) → Lowest n m c p → tab p n ≡ lowest c n m
  lowest_tab p hp =
      ext_get_or 0 (tab p n) (lowest c n m) (length-tab p n ∙ sym lowest_length)
      (λ k lk. let l : k < n = omega (arith, length-tab p n) in get_or-tab₀ p n k 0 l ∙ same_columns hp lowest_is k l)

  -- a function whose table is the recursion's list has its columns, in range, and the least total
  tab_column : (p : ℕ → ℕ) → tab p n ≡ lowest c n m → (i : ℕ) → i < n → p i ≡ get_or (lowest c n m) i 0
  tab_column p e i l = sym (get_or-tab₀ p n i 0 l) ∙ ap (λ (x : List ℕ). get_or x i 0) e

  pub tab_within : (p : ℕ → ℕ) → tab p n ≡ lowest c n m → (i : ℕ) → i < n → p i < m
  tab_within p e i l = omega (arith, tab_column p e i l, lowest_is.choice.within i l)

  pub tab-total : (p : ℕ → ℕ) → tab p n ≡ lowest c n m → total n c p ≡ least_total c n m
  unfolding total
  tab-total p e = sum_cong n (λ i l. ap (c i) (tab_column p e i l)) ∙ sym lowest_total
