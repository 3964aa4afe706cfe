-- What the tests say of prices as numbers: a column's price is zero or less, a discount; a car's is its cell and that discount. Assumes nothing.
use Rattle.std.specs.Prelude.{ℕ, zero, suc, ◌+◌, ◌-◌, ◌≤◌, ◌<◌, ◌≡◌, refl, true, false, ◌&&◌, leb, ℤ, pos, negsuc, nat_abs}
use Rattle.std.proofs.Common.{sym, ap, ◌∙◌, true≢false, ⊎_elim, arith, leb-true, le-leb}
use Rattle.std.specs.Int.Signed.{le_z}
use Rattle.laws.specs.Bools.{less?, both, both_left, both_right}
use Rattle.prices.specs.Price.{most_price, in_range, within, equals, zero_or_less, is_zero}
use Rattle.prices.specs.PriceLaws.{sub-lt, sub_ge}

-- ---- from the tests to numbers

-- a price and a discount are at most the cell
pub at_most : (a : ℕ) (y : ℤ) (cell : ℕ) → zero_or_less y ≡ true → within (pos a) y cell ≡ true → a ≤ cell + nat_abs y
unfolding within
at_most a (pos b) cell z h = omega (arith, leb-true (a + b) cell h)
at_most a (negsuc b) cell z h =
    ⊎_elim
    (λ (l : a < suc b). omega arith)
    (λ (l : suc b ≤ a). omega (arith, leb-true (a - suc b) cell (ap (λ (s : ℤ). le_z s (pos cell)) (sym (sub_ge a (suc b) l)) ∙ h)))
    (less? a (suc b))

never : {A : Type 0} → false ≡ true → A
never e = absurd (true≢false (sym e))

-- a price that equals the cell with a discount is their sum
pub is_sum : (x y : ℤ) (cell : ℕ) → zero_or_less y ≡ true → equals x y cell ≡ true → x ≡ pos (cell + nat_abs y)
unfolding equals zero_or_less
is_sum (pos a) (pos b) cell z h =
    ap pos
    (omega (
      arith,
      leb-true b 0 z,
      leb-true (a + b) cell (both_left (leb (a + b) cell) (leb cell (a + b)) h),
      leb-true cell (a + b) (both_right (leb (a + b) cell) (leb cell (a + b)) h),
    ))
is_sum (pos a) (negsuc b) cell z h =
    ⊎_elim
    (λ (l : a < suc b). never (ap (λ (s : ℤ). le_z s (pos cell) && le_z (pos cell) s) (sym (sub-lt a (suc b) l)) ∙ h))
    (λ (l : suc b ≤ a).
    let g = ap (λ (s : ℤ). le_z s (pos cell) && le_z (pos cell) s) (sym (sub_ge a (suc b) l)) ∙ h in
    ap pos
    (omega (
      arith,
      leb-true (a - suc b) cell (both_left (leb (a - suc b) cell) (leb cell (a - suc b)) g),
      leb-true cell (a - suc b) (both_right (leb (a - suc b) cell) (leb cell (a - suc b)) g),
    )))
    (less? a (suc b))
is_sum (negsuc a) (pos b) cell z h =
    let l : b < suc a = omega (arith, leb-true b 0 z) in
    never (ap (λ (s : ℤ). le_z s (pos cell) && le_z (pos cell) s) (sym (sub-lt b (suc a) l)) ∙ h)
is_sum (negsuc a) (negsuc b) cell z h = never h

-- zero is no discount
pub no_discount : (y : ℤ) → is_zero y ≡ true → nat_abs y ≡ 0
unfolding is_zero
no_discount (pos b) h = omega (arith, leb-true b 0 (both_left (leb b 0) (leb 0 b) h))
no_discount (negsuc b) h = never h

-- ---- and from numbers to the tests

-- the price of a discount
pub minus : ℕ → ℤ
minus zero = pos 0
minus (suc d) = negsuc d

pub within_yes : (a d cell : ℕ) → a ≤ cell + d → within (pos a) (minus d) cell ≡ true
unfolding within minus
within_yes a zero cell h = le-leb (a + 0) cell (omega arith)
within_yes a (suc d) cell h =
    ⊎_elim
    (λ (l : a < suc d). ap (λ (s : ℤ). le_z s (pos cell)) (sub-lt a (suc d) l))
    (λ (l : suc d ≤ a). ap (λ (s : ℤ). le_z s (pos cell)) (sub_ge a (suc d) l) ∙ le-leb (a - suc d) cell (omega arith))
    (less? a (suc d))

pub equals_yes : (a d cell : ℕ) → a ≡ cell + d → equals (pos a) (minus d) cell ≡ true
unfolding equals minus
equals_yes a zero cell h = both (le-leb (a + 0) cell (omega arith)) (le-leb cell (a + 0) (omega arith))
equals_yes a (suc d) cell h =
    ap (λ (s : ℤ). le_z s (pos cell) && le_z (pos cell) s) (sub_ge a (suc d) (omega arith))
    ∙ both (le-leb (a - suc d) cell (omega arith)) (le-leb cell (a - suc d) (omega arith))

pub discounted : (d : ℕ) → zero_or_less (minus d) ≡ true
unfolding zero_or_less minus
discounted zero = refl
discounted (suc d) = refl

pub undiscounted : (d : ℕ) → d ≡ 0 → is_zero (minus d) ≡ true
unfolding is_zero minus
undiscounted zero h = refl
undiscounted (suc d) h = absurd (omega arith)

pub price_in_range : (a : ℕ) → a ≤ most_price → in_range (pos a) ≡ true
unfolding in_range
price_in_range a h = le-leb a most_price h

pub discount_in_range : (d : ℕ) → d ≤ most_price → in_range (minus d) ≡ true
unfolding in_range minus
discount_in_range zero h = refl
discount_in_range (suc d) h = le-leb (suc d) most_price h
