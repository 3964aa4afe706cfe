-- "What it calls least must be least, whoever supplied the prices". Assumes nothing.
use Rattle.std.specs.Prelude.{ℕ, ◌+◌, ◌≤◌, ◌<◌, ◌≡◌, Bool, true, ◌&&◌, ◌||◌, ℤ, pos, nat_abs}
use Rattle.std.proofs.Common.{sym, ap, ◌∙◌, subst, arith}
use Rattle.std.proofs.Math.Bool.{false}
use Rattle.std.proofs.Math.Dec.{eqb}
use borrow.Author.Tests.{ne_eqb}
use Rattle.laws.specs.Bools.{both_left, both_right}
use Rattle.laws.specs.Folds.{any, every, every_at, none_any}
use Rattle.prices.specs.Price.{within, equals, zero_or_less, is_zero}
use Rattle.prices.specs.Signs.{at_most, is_sum, no_discount}
use Rattle.assignment_problem.specs.Choice.{IsChoice, total}
use Rattle.assignment_problem.specs.Prices.{Feasible, Tight}
use Rattle.assignment_problem.proofs.PriceLaws.{tight_least}
use Rattle.shown.specs.Shown.{never_above, equal_where_chosen, taken, columns_priced, shown}

module _ (n w : ℕ) (cell : ℕ → ℕ → ℕ) (column : ℕ → ℕ) (car_price column_price : ℕ → ℤ) (choice : IsChoice n w column)
    (h : shown n w cell column car_price column_price ≡ true) where
  never_above_lem : never_above n w cell car_price column_price ≡ true
  unfolding shown
  never_above_lem = both_left (never_above n w cell car_price column_price) _ h

  rest : (equal_where_chosen n cell column car_price column_price && columns_priced n w column column_price) ≡ true
  unfolding shown
  rest = both_right (never_above n w cell car_price column_price) _ h

  equal_at : (i : ℕ) → i < n → equals (car_price i) (column_price (column i)) (cell i (column i)) ≡ true
  unfolding equal_where_chosen
  equal_at i l =
      every_at (λ k. equals (car_price k) (column_price (column k)) (cell k (column k))) n i
      (both_left (equal_where_chosen n cell column car_price column_price) (columns_priced n w column column_price) rest) l

  within_at : (i j : ℕ) → i < n → j < w → within (car_price i) (column_price j) (cell i j) ≡ true
  unfolding never_above
  within_at i j li lj =
      every_at (λ k. within (car_price i) (column_price k) (cell i k)) w j
      (every_at (λ r. every (λ k. within (car_price r) (column_price k) (cell r k)) w) n i never_above_lem li) lj

  priced_at : (j : ℕ) → j < w
      → (zero_or_less (column_price j) && (taken n column j || is_zero (column_price j))) ≡ true
  unfolding columns_priced
  priced_at j l =
      every_at (λ k. zero_or_less (column_price k) && (taken n column k || is_zero (column_price k))) w j
      (both_right (equal_where_chosen n cell column car_price column_price) (columns_priced n w column column_price) rest) l

  discount_at : (j : ℕ) → j < w → zero_or_less (column_price j) ≡ true
  discount_at j l = both_left (zero_or_less (column_price j)) _ (priced_at j l)

  -- a car's price is its cell and the column's discount
  sum_at : (i : ℕ) → i < n → car_price i ≡ pos (cell i (column i) + nat_abs (column_price (column i)))
  sum_at i l =
      is_sum (car_price i) (column_price (column i)) (cell i (column i)) (discount_at (column i) (choice.within i l)) (equal_at i l)

  free_at : (j : ℕ) → j < w → ((k : ℕ) → k < n → column k ≡ j → ⊥) → nat_abs (column_price j) ≡ 0
  unfolding taken
  free_at j l free =
      let nobody : any (λ i. eqb (column i) j) n ≡ false = none_any (λ i. eqb (column i) j) n (λ k lk. ne_eqb (column k) j (free k lk)) in
      no_discount (column_price j) (ap (λ (b : Bool). b || is_zero (column_price j)) (sym nobody) ∙ both_right (zero_or_less (column_price j)) _ (priced_at j l))

  tight : Tight n w cell column (λ i. nat_abs (car_price i)) (λ j. nat_abs (column_price j))
  tight = record { tight = λ i l. ap nat_abs (sum_at i l); unused = free_at }

  feasible : Feasible n w cell (λ i. nat_abs (car_price i)) (λ j. nat_abs (column_price j))
  feasible i j li lj =
      let a = cell i (column i) + nat_abs (column_price (column i)) in
      let under : within (pos a) (column_price j) (cell i j) ≡ true =
      subst (λ (x : ℤ). within x (column_price j) (cell i j) ≡ true) (sum_at i li) (within_at i j li lj) in
      omega (arith, ap nat_abs (sum_at i li), at_most a (column_price j) (cell i j) (discount_at j lj) under)

  -- no other choice of distinct columns has a smaller total
  pub shown_least_lem : (q : ℕ → ℕ) → IsChoice n w q → total n cell column ≤ total n cell q
  shown_least_lem = tight_least choice tight feasible
