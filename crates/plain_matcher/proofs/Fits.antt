-- What each test of `assign` and `fill_columns` says of the promise. Assumes nothing.
use Rattle.std.specs.Prelude.{◌≡◌, true, false, List, ℕ, ◌*◌, ◌≤◌, ◌<◌, length, get_or, Result, Ok, Err}
use Rattle.std.proofs.Common.{ap, ⊎_elim, mul-le-mul_right, arith}
use Rattle.std.proofs.Math.Bool.{or-true}
use Rattle.std.proofs.Math.ListN.{get_or-eq_default}
use borrow.Author.Tests.{eq-eqb, ne_eqb, lt-ltb, le-ltb, ltb-false}
use Rattle.laws.specs.Bools.{less?}
use Rattle.laws.specs.Folds.{any, any_none}
use Rattle.assignment_problem.specs.Choice.{sentinel}
use Rattle.matcher.specs.Promise.{too_large}
use Rattle.plain_matcher.specs.declared.Chosen.{Chosen}
use Rattle.plain_matcher.specs.declared.Refusal.{Refusal}
use Rattle.plain_matcher.specs.declared.Refusal.TheVariants.{FewPlaces, NotSmall}
use Rattle.plain_matcher.specs.Promise.{refused22, chosen_of, plain_of, lent_plain, places_left, Small}

module _ (cars columns : ℕ) (cells : List ℕ) where
  -- what passes them all
  pub small : cars ≤ 4 → columns ≤ 5 → cars ≤ columns → length cells ≡ cars * columns → any (too_large cells) (length cells) ≡ false
      → Small cars columns cells
  small a b c d e =
      record {
        few_cars = a;
        few_columns = b;
        wide = c;
        whole = d;
        low = λ k. ⊎_elim
            (λ l. ltb-false sentinel (get_or cells k 0) (any_none (too_large cells) (length cells) e k l))
            (λ l. let z = get_or-eq_default cells 0 l in omega arith)
            (less? k (length cells));
      }

  -- each thing that may be wrong is enough
  pub many_cars : 4 < cars → Err NotSmall ≡ plain_of cars columns cells
  unfolding plain_of refused22
  many_cars h = rw (lt-ltb 4 cars h)

  pub many_columns : 5 < columns → Err NotSmall ≡ plain_of cars columns cells
  unfolding plain_of refused22
  many_columns h = rw (lt-ltb 5 columns h) (simp or-true)

  pub few_columns : columns < cars → Err NotSmall ≡ plain_of cars columns cells
  unfolding plain_of refused22
  few_columns h = rw (lt-ltb columns cars h) (simp or-true)

  pub wrong_count : (length cells ≡ cars * columns → ⊥) → Err NotSmall ≡ plain_of cars columns cells
  unfolding plain_of refused22
  wrong_count h = rw (ne_eqb (length cells) (cars * columns) h) (simp or-true)

  pub large_cell : any (too_large cells) (length cells) ≡ true → Err NotSmall ≡ plain_of cars columns cells
  unfolding plain_of refused22
  large_cell h = rw h (simp or-true)

  -- where nothing is wrong
  pub all_fits : cars ≤ 4 → columns ≤ 5 → cars ≤ columns → length cells ≡ cars * columns → any (too_large cells) (length cells) ≡ false
      → chosen_of cars columns cells ≡ plain_of cars columns cells
  unfolding plain_of refused22
  all_fits a b c d e = rw (le-ltb 4 cars a, le-ltb 5 columns b, le-ltb columns cars c, eq-eqb (length cells) (cars * columns) d, e)

-- the product of so few cars and columns is small
pub small_product : (cars columns : ℕ) → cars ≤ 4 → columns ≤ 5 → cars * columns ≤ 20
small_product cars columns a b = omega (arith, mul-le-mul_right columns a)

-- ---- for a host

pub few_places : (cars columns : ℕ) (cells : List ℕ) (places : ℕ) → places < 4 → Err FewPlaces ≡ lent_plain cars columns cells places
unfolding lent_plain
few_places cars columns cells places h = rw (lt-ltb places 4 h)

pub enough_places : (cars columns : ℕ) (cells : List ℕ) (places : ℕ) → 4 ≤ places → plain_of cars columns cells ≡ lent_plain cars columns cells places
unfolding lent_plain
enough_places cars columns cells places h = rw (le-ltb places 4 h)

-- what is chosen has few cars
pub chosen_few : (cars columns : ℕ) (cells : List ℕ) {x : Chosen} → Ok x ≡ plain_of cars columns cells → cars ≤ 4
chosen_few cars columns cells e = ⊎_elim
    (λ (l : 4 < cars). let r = many_cars cars columns cells l in let z : ◌≡◌ {A = ℕ} 0 1 = cc in absurd (omega arith))
    (λ (l : cars ≤ 4). l)
    (less? 4 cars)

-- what is left in the places, by the case of the answer
pub left_by : (cars : ℕ) (places : List ℕ) {p q : Result Chosen Refusal} → q ≡ p → (q ≡ p) × (places_left cars q places ≡ places_left cars p places)
left_by cars places e = (e, ap (λ (z : Result Chosen Refusal). places_left cars z places) e)
