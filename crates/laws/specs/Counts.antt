-- How many indices pass: fewer pass a stronger test, no more pass than there are places for them, and the first few of an order. Assumes nothing.
use Rattle.std.specs.Prelude.{◌≡◌, refl, Bool, true, false, not, ◌&&◌, ◌⊎◌, ℕ, zero, suc, ◌+◌, ◌-◌, ◌≤◌, ◌<◌, min, eqb, ltb}
use Rattle.std.proofs.Common.{sym, ap, ◌∙◌, ⊎_elim, arith, eqb-true, ltb-true, ltb-false}
use Rattle.std.proofs.lemmas.Bool.{eqb-false, not-true}
use Rattle.laws.specs.Bools.{bit, which, both_left, both_right, same?}
use Rattle.laws.specs.Folds.{count}

-- a test that holds where another does adds at least as much
pub bit_mono : (a b : Bool) → (a ≡ true → b ≡ true) → bit a ≤ bit b
bit_mono true b h = omega (arith, ap bit (h refl))
bit_mono false b h = omega arith

-- a weaker test passes more
pub count_mono : (p q : ℕ → Bool) (n : ℕ) → ((k : ℕ) → k < n → p k ≡ true → q k ≡ true) → count p n ≤ count q n
unfolding count
count_mono p q zero h = omega arith
count_mono p q (suc n) h = omega (arith, count_mono p q n (λ k l. h k (omega arith)), bit_mono (p n) (q n) (h n (omega arith)))

-- and more still where it alone holds somewhere
pub count-lt : (p q : ℕ → Bool) (n x : ℕ) → x < n → ((k : ℕ) → k < n → p k ≡ true → q k ≡ true) → p x ≡ false
    → q x ≡ true → count p n < count q n
unfolding count
count-lt p q zero x l h px qx = absurd (omega arith)
count-lt p q (suc n) x l h px qx =
    ⊎_elim
    (λ (e : x ≡ n).
    omega (arith, count_mono p q n (λ k lk. h k (omega arith)), ap bit (ap p (sym e) ∙ px), ap bit (ap q (sym e) ∙ qx)))
    (λ ne. omega (arith, count-lt p q n x (omega arith) (λ k lk. h k (omega arith)) px qx, bit_mono (p n) (q n) (h n (omega arith))))
    (same? x n)

pub count_none : (p : ℕ → Bool) (n : ℕ) → ((k : ℕ) → k < n → p k ≡ false) → count p n ≡ 0
unfolding count
count_none p zero h = refl
count_none p (suc n) h = omega (arith, count_none p n (λ k l. h k (omega arith)), ap bit (h n (omega arith)))

pub count-all : (n : ℕ) → count (λ k. true) n ≡ n
unfolding count
count-all zero = refl
count-all (suc n) = omega (arith, count-all n)

-- at most one, where any two that pass are the same
pub count-one : (p : ℕ → Bool) (n : ℕ) → ((a b : ℕ) → a < n → b < n → p a ≡ true → p b ≡ true → a ≡ b) → count p n ≤ 1
unfolding count
count-one p zero h = omega arith
count-one p (suc n) h =
    ⊎_elim
    (λ (e : p n ≡ true).
    omega (
      arith,
      count_none p n (λ k l. ⊎_elim (λ (t : p k ≡ true). absurd (let q = h k n (omega arith) (omega arith) t e in omega arith))
          (λ (t : p k ≡ false). t) (which (p k))),
      ap bit e,
    ))
    (λ (e : p n ≡ false). omega (arith, count-one p n (λ a b la lb. h a b (omega arith) (omega arith)), ap bit e))
    (which (p n))

parts : (a b : Bool) → bit a ≤ bit (a && not b) + bit (a && b)
parts true true = omega arith
parts true false = omega arith
parts false b = omega arith

-- those that pass also another test, and those that don't
pub count_parts : (p q : ℕ → Bool) (n : ℕ) → count p n ≤ count (λ a. p a && not (q a)) n + count (λ a. p a && q a) n
unfolding count
count_parts p q zero = omega arith
count_parts p q (suc n) = omega (arith, count_parts p q n, parts (p n) (q n))

-- where each that passes has a place of its own below k, at most k pass
pub pigeons : (p : ℕ → Bool) (f : ℕ → ℕ) (n k : ℕ) → ((a : ℕ) → a < n → p a ≡ true → f a < k)
    → ((a b : ℕ) → a < n → b < n → p a ≡ true → p b ≡ true → f a ≡ f b → a ≡ b) → count p n ≤ k
pigeons p f n zero h one =
    omega (arith, count_none p n (λ a l. ⊎_elim (λ (t : p a ≡ true). absurd (let z = h a l t in omega arith)) (λ (t : p a ≡ false). t) (which (p a))))
pigeons p f n (suc k) h one =
    let last : ℕ → Bool = λ a. eqb (f a) k in
    let rest = pigeons (λ a. p a && not (last a)) f n k
    (λ a l e.
    let x = h a l (both_left (p a) (not (last a)) e) in
    let ne = eqb-false (f a) k (not-true (last a) (both_right (p a) (not (last a)) e)) in
    omega arith)
    (λ a b la lb ea eb. one a b la lb (both_left (p a) (not (last a)) ea) (both_left (p b) (not (last b)) eb)) in
    let top = count-one (λ a. p a && last a) n
    (λ a b la lb ea eb.
    one a b la lb (both_left (p a) (last a) ea) (both_left (p b) (last b) eb)
    (eqb-true (f a) k (both_right (p a) (last a) ea) ∙ sym (eqb-true (f b) k (both_right (p b) (last b) eb)))) in
    omega (arith, count_parts p last n)

-- where those that pass have numbers of their own below their count, the smaller of k and the count have one below k
pub count_first : (p : ℕ → Bool) (f : ℕ → ℕ) (n k : ℕ) → ((a : ℕ) → a < n → p a ≡ true → f a < count p n)
    → ((a b : ℕ) → a < n → b < n → p a ≡ true → p b ≡ true → f a ≡ f b → a ≡ b)
    → count (λ a. p a && ltb (f a) k) n ≡ min k (count p n)
count_first p f n k h one =
    let q : ℕ → Bool = λ a. ltb (f a) k in
    let low = pigeons (λ a. p a && q a) f n k
    (λ a l e. ltb-true (f a) k (both_right (p a) (q a) e))
    (λ a b la lb ea eb. one a b la lb (both_left (p a) (q a) ea) (both_left (p b) (q b) eb)) in
    let part = count_mono (λ a. p a && q a) p n (λ a l e. both_left (p a) (q a) e) in
    let rest = pigeons (λ a. p a && not (q a)) (λ a. f a - k) n (count p n - k)
    (λ a l e.
    let x = h a l (both_left (p a) (not (q a)) e) in
    let y = ltb-false (f a) k (not-true (q a) (both_right (p a) (not (q a)) e)) in
    omega arith)
    (λ a b la lb ea eb z.
    let x = ltb-false (f a) k (not-true (q a) (both_right (p a) (not (q a)) ea)) in
    let y = ltb-false (f b) k (not-true (q b) (both_right (p b) (not (q b)) eb)) in
    one a b la lb (both_left (p a) (not (q a)) ea) (both_left (p b) (not (q b)) eb) (omega arith)) in
    omega (arith, count_parts p q n)

-- ---- an order on what passes: P j i says that i comes before j

pub record Order (v : ℕ → Bool) (P : ℕ → ℕ → Bool) (n : ℕ) : Type 0 where
  pub self : (j : ℕ) → j < n → v j ≡ true → P j j ≡ false
  pub steps : (i k j : ℕ) → i < n → k < n → j < n → v k ≡ true → v j ≡ true → P k i ≡ true → P j k ≡ true → P j i ≡ true
  pub either : (j k : ℕ) → j < n → k < n → v j ≡ true → v k ≡ true → (j ≡ k → ⊥) → (P j k ≡ true) ⊎ (P k j ≡ true)
  pub within : (j i : ℕ) → j < n → i < n → P j i ≡ true → v i ≡ true

module _ (v : ℕ → Bool) (P : ℕ → ℕ → Bool) (n : ℕ) (o : Order v P n) where
  sooner : (j k : ℕ) → j < n → k < n → v j ≡ true → v k ≡ true → P j k ≡ true → count (P k) n < count (P j) n
  sooner j k a b vj vk t = count-lt (P k) (P j) n k b (λ i l s. o.steps i k j l b a vk vj s t) (o.self k b vk) t

  -- two that have as many before them are the same
  pub place_apart : (i j : ℕ) → i < n → j < n → v i ≡ true → v j ≡ true → count (P i) n ≡ count (P j) n → i ≡ j
  place_apart i j a b s t e =
      ⊎_elim (λ x. x)
      (λ x.
      ⊎_elim
      (λ (y : P i j ≡ true). absurd (omega (arith, sooner i j a b s t y)))
      (λ (y : P j i ≡ true). absurd (omega (arith, sooner j i b a t s y)))
      (o.either i j a b s t x))
      (same? i j)

  -- fewer come before one that passes than pass
  pub place_below : (j : ℕ) → j < n → v j ≡ true → count (P j) n < count v n
  place_below j l t = count-lt (P j) v n j l (λ i li s. o.within j i l li s) (o.self j l t) t

  -- the smaller of m and their number have fewer than m before them
  pub first_few : (m : ℕ) → count (λ j. v j && ltb (count (P j) n) m) n ≡ min m (count v n)
  first_few m = count_first v (λ j. count (P j) n) n m place_below place_apart
