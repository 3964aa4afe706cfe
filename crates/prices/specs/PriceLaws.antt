-- Two prices of the range add up without a wrap; the tests on them as the code makes them. Assumes nothing.
use Rattle.std.specs.Prelude.{ℕ, suc, ◌-◌, ◌≤◌, ◌<◌, ◌≡◌, refl, true, false, ◌&&◌, eqb, leb, ℤ, pos, negsuc, ◌+ℤ◌, nat_abs}
use Rattle.std.proofs.Common.{sym, ap, ap₂, ◌∙◌, subst, ⊎_elim, arith, SFits, to_z, of_z, to_z-of_z, leb-true, leb-false, le-leb, lt-ltb, le-ltb, eqb-true, eq-eqb, ne_eqb}
use Rattle.std.proofs.Math.Bool.{and-true}
use Rattle.std.proofs.Math.IntN.{sub_ℕ}
use Rattle.std.specs.Int.Signed.{le_z}
use Rattle.std.specs.Int.{w64}
use Rattle.std.proofs.Math.Facts.{to_z_pos}
use Rattle.std.proofs.lemmas.Bool.{lt-leb}
use Rattle.laws.specs.Bools.{which, less?, same_test, both, both_left, both_right}
use Rattle.prices.specs.Price.{most_price, in_range}

-- as numbers of their own sign
pub range_of : (z : ℤ) → in_range z ≡ true → nat_abs z ≤ most_price
unfolding in_range
range_of z h = leb-true (nat_abs z) most_price h

pub sub-lt : (a b : ℕ) → a < b → sub_ℕ a b ≡ negsuc (b - suc a)
sub-lt a b h = rw (lt-ltb a b h)

pub sub_ge : (a b : ℕ) → b ≤ a → sub_ℕ a b ≡ pos (a - b)
sub_ge a b h = rw (le-ltb a b h)

-- a difference of two is in the range of the type
apart : (a b : ℕ) → a ≤ most_price → b ≤ most_price → SFits w64 (sub_ℕ a b)
apart a b la lb =
    ⊎_elim
    (λ (l : a < b). subst (λ (z : ℤ). SFits w64 z) (sym (sub-lt a b l)) (record { sfits = omega arith }))
    (λ (l : b ≤ a). subst (λ (z : ℤ). SFits w64 z) (sym (sub_ge a b l)) (record { sfits = omega arith }))
    (less? a b)

pub sum_fits : (x y : ℤ) → in_range x ≡ true → in_range y ≡ true → SFits w64 (x +ℤ y)
sum_fits x y hx hy = by x y (range_of x hx) (range_of y hy)
  where
    by : (x y : ℤ) → nat_abs x ≤ most_price → nat_abs y ≤ most_price → SFits w64 (x +ℤ y)
    by (pos a) (pos b) la lb = record { sfits = omega arith }
    by (pos a) (negsuc b) la lb = apart a (suc b) la lb
    by (negsuc a) (pos b) la lb = apart b (suc a) lb la
    by (negsuc a) (negsuc b) la lb = record { sfits = omega arith }

-- the two tests of the range
pub range_tests : (z : ℤ) → (le_z (negsuc 18_014_398_509_481_983) z && le_z z (pos 18_014_398_509_481_984)) ≡ in_range z
unfolding in_range
range_tests (pos n) = refl
range_tests (negsuc k) = and-true (leb k 18_014_398_509_481_983) ∙ next k 18_014_398_509_481_983
  where
    next : (a b : ℕ) → leb a b ≡ leb (suc a) (suc b)
    next a b =
        ⊎_elim
        (λ (h : leb a b ≡ true). h ∙ sym (le-leb (suc a) (suc b) (omega (arith, leb-true a b h))))
        (λ (h : leb a b ≡ false). h ∙ sym (lt-leb (suc a) (suc b) (omega (arith, leb-false a b h))))
        (which (leb a b))

-- the sum of two prices of the type, as the code makes it
pub sum_is : (x y : ℤ) → SFits w64 x → SFits w64 y → in_range x ≡ true → in_range y ≡ true
    → to_z w64 (of_z w64 (to_z w64 (of_z w64 x) +ℤ to_z w64 (of_z w64 y))) ≡ x +ℤ y
sum_is x y fx fy hx hy =
    ap (λ (z : ℤ). to_z w64 (of_z w64 z)) (ap₂ (λ (a b : ℤ). a +ℤ b) (to_z-of_z fx) (to_z-of_z fy)) ∙ to_z-of_z (sum_fits x y hx hy)

pub sum_room : (x y : ℤ) → SFits w64 x → SFits w64 y → in_range x ≡ true → in_range y ≡ true
    → SFits w64 (to_z w64 (of_z w64 x) +ℤ to_z w64 (of_z w64 y))
sum_room x y fx fy hx hy =
    subst (λ (z : ℤ). SFits w64 z) (sym (ap₂ (λ (a b : ℤ). a +ℤ b) (to_z-of_z fx) (to_z-of_z fy))) (sum_fits x y hx hy)

-- a cell of a matrix as a number of either sign
pub cell_is : (cell : ℕ) → cell ≤ 281_474_976_710_656 → to_z w64 cell ≡ pos cell
cell_is cell h = to_z_pos w64 (omega arith)

-- a price of the range is one of the type, and comes back from its bits
pub same_price : (z : ℤ) → in_range z ≡ true → to_z w64 (of_z w64 z) ≡ z
same_price z h = to_z-of_z (by z (range_of z h))
  where
    by : (z : ℤ) → nat_abs z ≤ most_price → SFits w64 z
    by (pos a) l = record { sfits = omega arith }
    by (negsuc a) l = record { sfits = omega arith }

-- a number of either sign has the bits of a small natural number exactly where it is that number
pub same_bits : (z : ℤ) (n : ℕ) → SFits w64 z → n < 9_223_372_036_854_775_808 → eqb (of_z w64 z) n ≡ (le_z z (pos n) && le_z (pos n) z)
same_bits (pos a) n f l = equal_both a n
  where
    equal_both : (a b : ℕ) → eqb a b ≡ (leb a b && leb b a)
    equal_both a b =
        same_test (eqb a b) (leb a b && leb b a)
        (λ e. let q = eqb-true a b e in both (le-leb a b (omega arith)) (le-leb b a (omega arith)))
        (λ e. eq-eqb a b (omega (arith, leb-true a b (both_left (leb a b) (leb b a) e), leb-true b a (both_right (leb a b) (leb b a) e))))
same_bits (negsuc k) n f l = ne_eqb (of_z w64 (negsuc k)) n (λ e. omega (arith, f.sfits))
