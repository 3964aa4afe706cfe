-- "and for each least choice some whole prices within the range pass". Assumes nothing.
use Rattle.std.specs.Prelude.{ℕ, ◌≤◌, ◌<◌, ◌≡◌, true, false, ◌||◌, ℤ, pos}
use Rattle.std.proofs.Math.Logic.{⊎_elim}
use Rattle.std.proofs.Common.{arith}
use Rattle.std.proofs.Math.Dec.{eqb}
use borrow.Author.Tests.{eqb-false}
use Rattle.laws.specs.Bools.{which, both, either_left, either_right}
use Rattle.laws.specs.Folds.{any, all_every, any_none}
use Rattle.prices.specs.Price.{in_range, is_zero}
use Rattle.prices.specs.Signs.{minus, within_yes, equals_yes, discounted, undiscounted, price_in_range, discount_in_range}
use Rattle.assignment_problem.specs.Choice.{IsChoice, total}
use Rattle.assignment_problem.specs.Prices.{Tight}
use Rattle.assignment_problem.proofs.PricesExist.{LeastPrices, prices_exist}
use Rattle.shown.specs.Shown.{never_above, equal_where_chosen, taken, columns_priced, shown}

pub record Passing (n w : ℕ) (cell : ℕ → ℕ → ℕ) (column : ℕ → ℕ) : Type 0 where
  pub car_price : ℕ → ℤ
  pub column_price : ℕ → ℤ
  pub cars_in_range : (i : ℕ) → i < n → in_range (car_price i) ≡ true
  pub columns_in_range : (j : ℕ) → j < w → in_range (column_price j) ≡ true
  pub shows : shown n w cell column car_price column_price ≡ true

module _ (n w : ℕ) (cell : ℕ → ℕ → ℕ) (column : ℕ → ℕ) (fits : n ≤ w)
    (cells : (i j : ℕ) → i < n → j < w → cell i j ≤ 281_474_976_710_656) (choice : IsChoice n w column)
    (least : (q : ℕ → ℕ) → IsChoice n w q → total n cell column ≤ total n cell q) where
  prices : LeastPrices n w cell 281_474_976_710_656 fits cells
  prices = prices_exist n w cell 281_474_976_710_656 fits cells

  tight : Tight n w cell column prices.u prices.w
  tight = prices.all_tight column choice least

  cars : ℕ → ℤ
  cars i = pos (prices.u i)

  columns : ℕ → ℤ
  columns j = minus (prices.w j)

  free_or_zero : (j : ℕ) → j < w → (taken n column j || is_zero (columns j)) ≡ true
  unfolding taken columns
  free_or_zero j l =
      ⊎_elim
      (λ (t : any (λ i. eqb (column i) j) n ≡ true). either_left (any (λ i. eqb (column i) j) n) (is_zero (columns j)) t)
      (λ (t : any (λ i. eqb (column i) j) n ≡ false).
      either_right (any (λ i. eqb (column i) j) n) (is_zero (columns j))
      (undiscounted (prices.w j) (tight.unused j l (λ k lk e. eqb-false (column k) j (any_none (λ i. eqb (column i) j) n t k lk) e))))
      (which (any (λ i. eqb (column i) j) n))

  pub least_passes : Passing n w cell column
  unfolding shown never_above equal_where_chosen columns_priced cars columns
  least_passes =
      record {
        car_price = cars;
        column_price = columns;
        cars_in_range = λ i l. price_in_range (prices.u i) (omega (arith, prices.u_bound i l));
        columns_in_range = λ j l. discount_in_range (prices.w j) (omega (arith, prices.w_bound j l));
        shows =
            both
            (all_every _ n (λ i li. all_every _ w (λ j lj. within_yes (prices.u i) (prices.w j) (cell i j) (prices.feasible i j li lj))))
            (both
            (all_every _ n (λ i li. equals_yes (prices.u i) (prices.w (column i)) (cell i (column i)) (tight.tight i li)))
            (all_every _ w (λ j lj. both (discounted (prices.w j)) (free_or_zero j lj))));
      }
