-- What a site may send wrong: refusals 19 and 20 of request F-8. Assumes nothing.
use Rattle.std.specs.Prelude.{ℕ, ◌≤◌, ◌<◌, ◌≡◌, Bool, ◌||◌, List, leb, length, ℤ}
use Rattle.std.proofs.Math.Path.{refl, sym}
use Rattle.std.proofs.Common.{ap, ⊎_elim, arith}
use Rattle.std.proofs.Math.Bool.{true, false, not}
use Rattle.std.proofs.Math.Dec.{eqb}
use borrow.Author.Tests.{eqb-true, eq-eqb, ne_eqb, leb-false, lt-leb}
use Rattle.laws.specs.Bools.{not_both, neither_left, neither_right, less?}
use Rattle.laws.specs.Folds.{any, any_at, any_none, none_any}
use Rattle.prices.specs.Price.{in_range}
use Rattle.assignment_problem.specs.Choice.{IsChoice}
use Rattle.shown.specs.Shown.{taken}
use Rattle.shown.specs.Fits.{price_at, column_of, Inside}

-- of n idle cars, a matrix of w columns, and what the site sent: its columns, its prices u of cars and v of columns

-- the column of car i "lies outside the matrix"
unfoldable pub outside : ℕ → List ℕ → ℕ → Bool
outside w columns i = leb w (column_of columns i)

-- the column of car i "repeats" that of an earlier car
unfoldable pub repeats : List ℕ → ℕ → Bool
repeats columns i = taken i (column_of columns) (column_of columns i)

-- "19 when there isn't one column for each idle car, or a column repeats or lies outside the matrix"
unfoldable pub refusal19 : ℕ → ℕ → List ℕ → Bool
refusal19 n w columns = not (eqb (length columns) n) || any (λ i. outside w columns i || repeats columns i) n

-- there isn't one price for each of k, or one "is beyond 18,014,398,509,481,984 either way"
unfoldable pub mispriced : ℕ → List ℤ → Bool
mispriced k prices = not (eqb (length prices) k) || any (λ i. not (in_range (price_at prices i))) k

-- "20 when there isn't one price for each car and column, or a price is beyond 18,014,398,509,481,984 either way"
unfoldable pub refusal20 : ℕ → ℕ → List ℤ → List ℤ → Bool
refusal20 n w u v = mispriced n u || mispriced w v

-- ---- as the code tests them

pub other_number : (n w : ℕ) (columns : List ℕ) → (length columns ≡ n → ⊥) → true ≡ refusal19 n w columns
unfolding refusal19
other_number n w columns h = rw (ne_eqb (length columns) n h)

pub same_number : (n w : ℕ) (columns : List ℕ) → length columns ≡ n → {b : Bool} → b ≡ any (λ i. outside w columns i || repeats columns i) n
    → b ≡ refusal19 n w columns
unfolding refusal19
same_number n w columns h e = rw (eq-eqb (length columns) n h) e

pub other_count : (k : ℕ) (prices : List ℤ) → (length prices ≡ k → ⊥) → true ≡ mispriced k prices
unfolding mispriced
other_count k prices h = rw (ne_eqb (length prices) k h)

pub same_count : (k : ℕ) (prices : List ℤ) → length prices ≡ k → {b : Bool} → b ≡ any (λ i. not (in_range (price_at prices i))) k
    → b ≡ mispriced k prices
unfolding mispriced
same_count k prices h e = rw (eq-eqb (length prices) k h) e

-- ---- what stands where neither holds

equal_of : {a b : ℕ} → not (eqb a b) ≡ false → a ≡ b
equal_of {a} {b} h = eqb-true a b (by (eqb a b) h)
  where
    by : (x : Bool) → not x ≡ false → x ≡ true
    by true e = refl
    by false e = sym e

module _ (n w : ℕ) (columns : List ℕ) (h : refusal19 n w columns ≡ false) where
  pub as_many : length columns ≡ n
  unfolding refusal19
  as_many = equal_of (neither_left (not (eqb (length columns) n)) _ h)

  none_wrong : (i : ℕ) → i < n → (outside w columns i || repeats columns i) ≡ false
  unfolding refusal19
  none_wrong = any_none (λ i. outside w columns i || repeats columns i) n (neither_right (not (eqb (length columns) n)) _ h)

  below : (i : ℕ) → i < n → column_of columns i < w
  unfolding outside
  below i l = leb-false w (column_of columns i) (neither_left (outside w columns i) (repeats columns i) (none_wrong i l))

  pub inside_of : Inside n w columns
  inside_of = record { there = omega (arith, as_many); inside = below }

  apart : (a b : ℕ) → a < b → b < n → column_of columns a ≡ column_of columns b → ⊥
  unfolding repeats taken
  apart a b l lb e =
      not_both
      (any_at (λ k. eqb (column_of columns k) (column_of columns b)) b a l (eq-eqb (column_of columns a) (column_of columns b) e))
      (neither_right (outside w columns b) (repeats columns b) (none_wrong b lb))

  -- distinct columns, one a car
  pub choice_of : IsChoice n w (column_of columns)
  choice_of = record {
    within = below;
    distinct = λ a b la lb e.
        ⊎_elim
        (λ (x : a < b). absurd (apart a b x lb e))
        (λ (x : b ≤ a). ⊎_elim (λ (y : b < a). absurd (apart b a y la (sym e))) (λ (y : a ≤ b). omega arith) (less? b a))
        (less? a b);
  }

-- and the other way: a choice is not refused
pub choice_taken : (n w : ℕ) (columns : List ℕ) → length columns ≡ n → IsChoice n w (column_of columns) → refusal19 n w columns ≡ false
unfolding refusal19 outside repeats taken
choice_taken n w columns size h =
    rw (eq-eqb (length columns) n size)
    (none_any (λ i. leb w (column_of columns i) || any (λ k. eqb (column_of columns k) (column_of columns i)) i) n
    (λ i l.
    rw (lt-leb w (column_of columns i) (h.within i l))
    (none_any (λ k. eqb (column_of columns k) (column_of columns i)) i
    (λ k lk. ne_eqb (column_of columns k) (column_of columns i) (λ e. absurd (let s = h.distinct k i (omega arith) l e in omega arith))))))

module _ (k : ℕ) (prices : List ℤ) (h : mispriced k prices ≡ false) where
  pub as_many_prices : length prices ≡ k
  unfolding mispriced
  as_many_prices = equal_of (neither_left (not (eqb (length prices) k)) _ h)

  pub prices_in_range : (i : ℕ) → i < k → in_range (price_at prices i) ≡ true
  unfolding mispriced
  prices_in_range i l =
      by (in_range (price_at prices i)) (any_none (λ i. not (in_range (price_at prices i))) k (neither_right (not (eqb (length prices) k)) _ h) i l)
    where
      by : (x : Bool) → not x ≡ false → x ≡ true
      by true e = refl
      by false e = sym e

pub priced_well : (k : ℕ) (prices : List ℤ) → length prices ≡ k → ((i : ℕ) → i < k → in_range (price_at prices i) ≡ true) → mispriced k prices ≡ false
unfolding mispriced
priced_well k prices size h =
    rw (eq-eqb (length prices) k size)
    (none_any (λ i. not (in_range (price_at prices i))) k (λ i l. ap not (h i l)))
