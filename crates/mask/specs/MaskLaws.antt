-- Laws of masks: what is built and what it has, and the ones counted. Assumes nothing.
use Rattle.std.specs.Prelude.{◌≡◌, Bool, true, false, ◌&&◌, ◌||◌, not, eqb, leb}
use Rattle.std.proofs.Math.Path.{refl, ap₂}
use Rattle.std.proofs.Common.{sym, ap, ◌∙◌, subst, ⊎_elim, le_refl, add-zero, add-suc, add-mul, mul_assoc, zero-mul, mul-pos, zero-lt-suc, add-one, shr-shr, pow_mono, pow-add, pow_pos, shl_lt, eq-eqb, ne_eqb, le-leb, leb-true}
use Prim.Native.Nat.{ℕ, zero, suc, ◌+◌, ◌-◌, ◌*◌, ◌/◌, ◌%◌, ◌^◌, ◌≤◌, ◌<◌}
use Rattle.std.proofs.Math.Nat.{pow-suc, pow-zero}
use native.Mathlib.Omega.{arith}
use Rattle.std.proofs.Math.Arith.{digits_div, digits_mod}
use Rattle.std.specs.Int.Bits.{bit_and, bit_or, and_step, or_step, and_zero_l, or_zero_l}
use Rattle.std.specs.Int.Count.{ones, ones_step}
use Rattle.std.proofs.Math.Pow.{low}
use Rattle.std.proofs.lemmas.Bool.{lt-leb}
use Rattle.laws.specs.Bools.{bit, bit-lt, which, same?, less?, both, both_left, both_right, not_both, same_test, bit-and, bit-or, bit_not, bit_inj}
use Rattle.laws.specs.Folds.{count, any, any_some, any_none, none_any, any_at}
use Rattle.mask.specs.Mask.{has, built, past_stops}

-- ---- what is built

module _ (f : ℕ → Bool) where
  pub built_lt : (n : ℕ) → built f n < 2 ^ n
  unfolding built
  built_lt zero = omega arith
  built_lt (suc n) = omega (arith, built_lt n, pow-suc 2 n, bit-lt (f n))

  pub built_half : (n : ℕ) → built f (suc n) / 2 ≡ built f n
  unfolding built
  built_half n = digits_div (built f n) (bit-lt (f n))

  pub built_odd : (n : ℕ) → built f (suc n) % 2 ≡ bit (f n)
  unfolding built
  built_odd n = digits_mod (built f n) (bit-lt (f n))

  pub ones_built : (n : ℕ) → ones (built f n) ≡ count f n
  unfolding built count ones
  ones_built zero = refl
  ones_built (suc n) =
      ones_step (built f (suc n)) ∙ ap₂ (λ (x y : ℕ). x + ones y) (built_odd n) (built_half n)
      ∙ omega (arith, ones_built n)

pub built_cong : (f g : ℕ → Bool) (n : ℕ) → ((j : ℕ) → j < n → f j ≡ g j) → built f n ≡ built g n
unfolding built
built_cong f g zero h = refl
built_cong f g (suc n) h =
    ap₂ (λ (x y : ℕ). x * 2 + y) (built_cong f g n (λ j k. h j (omega arith))) (ap bit (h n (omega arith)))

pub built_and : (f g : ℕ → Bool) (n : ℕ) → bit_and (built f n) (built g n) ≡ built (λ j. f j && g j) n
unfolding built
built_and f g zero = and_zero_l 0
built_and f g (suc n) =
    and_step (built f (suc n)) (built g (suc n))
    ∙ rw (built_half f n, built_half g n, built_odd f n, built_odd g n, built_and f g n, bit-and (f n) (g n))

pub built_or : (f g : ℕ → Bool) (n : ℕ) → bit_or (built f n) (built g n) ≡ built (λ j. f j || g j) n
unfolding built
built_or f g zero = or_zero_l 0
built_or f g (suc n) =
    or_step (built f (suc n)) (built g (suc n))
    ∙ rw (built_half f n, built_half g n, built_odd f n, built_odd g n, built_or f g n, bit-or (f n) (g n))

pub built_not : (f : ℕ → Bool) (n : ℕ) → (2 ^ n - 1) - built f n ≡ built (λ j. not (f j)) n
unfolding built
built_not f zero = refl
built_not f (suc n) = omega (arith, built_not f n, built_lt f n, pow-suc 2 n, bit_not (f n))

-- ---- a mask is made of its stops

bit-eqb : (x : ℕ) → x < 2 → bit (eqb x 1) ≡ x
bit-eqb zero h = refl
bit-eqb (suc zero) h = refl
bit-eqb (suc (suc x)) h = absurd (omega arith)

-- its first j stops are its highest j bits
pub built_has : (m j : ℕ) → m < 2 ^ 64 → j ≤ 64 → built (has m) j ≡ m / 2 ^ (64 - j)
unfolding built has
built_has m zero h k = omega arith
built_has m (suc j) h k =
    let e1 : m / 2 ^ (64 - j) ≡ m / 2 ^ (63 - j) / 2 =
    ap (λ (x : ℕ). m / 2 ^ x) (omega arith) ∙ sym (shr-shr m (63 - j) 1) in
    let e2 : m / 2 ^ (64 - suc j) ≡ m / 2 ^ (63 - j) = ap (λ (x : ℕ). m / 2 ^ x) (omega arith) in
    omega (arith, built_has m j h (omega arith), bit-eqb (m / 2 ^ (63 - j) % 2) (omega arith))

pub built_of : (m : ℕ) → m < 2 ^ 64 → built (has m) 64 ≡ m
built_of m h = built_has m 64 h (le_refl 64) ∙ omega arith

-- equal masks have the same stops
pub built_inj : (f g : ℕ → Bool) (n : ℕ) → built f n ≡ built g n → (j : ℕ) → j < n → f j ≡ g j
built_inj f g zero e j h = absurd (omega arith)
built_inj f g (suc n) e j h =
    ⊎_elim
    (λ (d : j ≡ n). rw d (bit_inj (f n) (g n) (sym (built_odd f n) ∙ ap (λ (x : ℕ). x % 2) e ∙ built_odd g n)))
    (λ ne. built_inj f g n (sym (built_half f n) ∙ ap (λ (x : ℕ). x / 2) e ∙ built_half g n) j (omega arith))
    (same? j n)

-- the stops of a mask that was built
pub has_built : (f : ℕ → Bool) (j : ℕ) → j < 64 → has (built f 64) j ≡ f j
has_built f j h = built_inj (has (built f 64)) f 64 (built_of (built f 64) (built_lt f 64)) j h

-- ---- operations on masks

module _ (a b : ℕ) (la : a < 2 ^ 64) (lb : b < 2 ^ 64) where
  pub and_has : bit_and a b ≡ built (λ j. has a j && has b j) 64
  and_has = ap₂ bit_and (sym (built_of a la)) (sym (built_of b lb)) ∙ built_and (has a) (has b) 64

  pub or_has : bit_or a b ≡ built (λ j. has a j || has b j) 64
  or_has = ap₂ bit_or (sym (built_of a la)) (sym (built_of b lb)) ∙ built_or (has a) (has b) 64

  pub without_has : bit_and a ((2 ^ 64 - 1) - b) ≡ built (λ j. has a j && not (has b j)) 64
  without_has =
      ap₂ bit_and (sym (built_of a la)) (ap (λ (x : ℕ). (2 ^ 64 - 1) - x) (sym (built_of b lb)) ∙ built_not (has b) 64)
      ∙ built_and (has a) (λ j. not (has b j)) 64

-- the digits of a single one
only : (j n : ℕ) → j < n → built (λ k. eqb k j) n ≡ 2 ^ (n - 1 - j)
unfolding built
only j zero h = absurd (omega arith)
only j (suc n) h =
    ⊎_elim
    (λ (e : j ≡ n).
    let z : built (λ k. eqb k j) n ≡ 0 = none n (omega arith) in
    let d : suc n - 1 - j ≡ 0 = omega arith in
    rw (d, pow-zero) (omega (arith, z, ap bit (eq-eqb n j (sym e)))))
    (λ ne.
    let d : suc n - 1 - j ≡ suc (n - 1 - j) = omega arith in
    rw (d, pow-suc) (omega (arith, only j n (omega arith), ap bit (ne_eqb n j (λ q. ne (sym q))))))
    (same? j n)
  where
    none : (m : ℕ) → m ≤ j → built (λ k. eqb k j) m ≡ 0
    none zero l = refl
    none (suc m) l = omega (arith, none m (omega arith), ap bit (ne_eqb m j (λ q. absurd (omega arith))))

-- a mask with one stop more
pub with_has : (m j : ℕ) → m < 2 ^ 64 → j < 64 → bit_or m (2 ^ (63 - j)) ≡ built (λ k. has m k || eqb k j) 64
with_has m j h l =
    ap₂ bit_or (sym (built_of m h)) (sym (only j 64 l)) ∙ built_or (has m) (λ k. eqb k j) 64

-- ---- the ones

pub ones_has : (m : ℕ) → m < 2 ^ 64 → ones m ≡ count (has m) 64
ones_has m h = ap ones (sym (built_of m h)) ∙ ones_built (has m) 64

-- those of the first j stops
pub ones_first : (m j : ℕ) → m < 2 ^ 64 → j ≤ 64 → ones (m / 2 ^ (64 - j)) ≡ count (has m) j
ones_first m j h l = ap ones (sym (built_has m j h l)) ∙ ones_built (has m) j

-- ---- a loop that builds a mask

pub built_room : (f : ℕ → Bool) (m j : ℕ) → j < 64 → m ≡ built f j → m < 2 ^ 63
built_room f m j h e = omega (arith, built_lt f j, pow_mono {i = j} {j = 63} (omega arith))

pub built_next : (f : ℕ → Bool) (m j : ℕ) (b : Bool) → m ≡ built f j → b ≡ f j → m * 2 + bit b ≡ built f (j + 1)
unfolding built
built_next f m j b e d = rw (e, d, add-one)

-- ---- stops past the first n

pub built_split : (f : ℕ → Bool) (a b : ℕ) → built f (a + b) ≡ built f a * 2 ^ b + built (λ j. f (a + j)) b
unfolding built
built_split f a zero = rw (add-zero, pow-zero) (omega arith)
built_split f a (suc b) = rw (add-suc, pow-suc, built_split f a b, ← mul_assoc) (omega arith)

pub built_none : (f : ℕ → Bool) (n : ℕ) → built f n ≡ 0 → any f n ≡ false
unfolding built any
built_none f zero e = refl
built_none f (suc n) e = rw (built_none f n (omega arith), bit_inj (f n) false (omega arith))

pub none_built : (f : ℕ → Bool) (n : ℕ) → any f n ≡ false → built f n ≡ 0
unfolding built
none_built f zero e = refl
none_built f (suc n) e =
    omega (arith, none_built f n (none_any f n (λ j l. any_none f (suc n) e j (omega arith))), ap bit (any_none f (suc n) e n (omega arith)))

built_zero : (f : ℕ → Bool) (n : ℕ) → not (eqb (built f n) 0) ≡ any f n
built_zero f n =
    ⊎_elim
    (λ e. let z : any f n ≡ false = built_none f n e in rw (eq-eqb (built f n) 0 e, z))
    (λ ne.
    rw (ne_eqb (built f n) 0 ne)
    (⊎_elim (λ (t : any f n ≡ true). sym t) (λ (t : any f n ≡ false). absurd (ne (none_built f n t))) (which (any f n))))
    (same? (built f n) 0)

-- a mask shifted up by n keeps the stops past the first n
shifted : (m n : ℕ) → m < 2 ^ 64 → n ≤ 64 → m * 2 ^ n % 2 ^ 64 ≡ built (λ j. has m (n + j)) (64 - n) * 2 ^ n
shifted m n h l =
    let b = 64 - n in
    let g : ℕ → Bool = λ j. has m (n + j) in
    let f : n + b ≡ 64 = omega arith in
    let s : b + n ≡ 64 = omega arith in
    let q : 2 ^ b * 2 ^ n ≡ 2 ^ 64 = sym (pow-add 2 b n) ∙ ap (λ (x : ℕ). 2 ^ x) s in
    let e : m ≡ built (has m) n * 2 ^ b + built g b = sym (built_of m h) ∙ ap (built (has m)) (sym f) ∙ built_split (has m) n b in
    let fits : built g b * 2 ^ n < 2 ^ 64 = subst (λ (x : ℕ). built g b * 2 ^ n < 2 ^ x) s (shl_lt b n (built_lt g b)) in
    ap (λ (x : ℕ). x * 2 ^ n % 2 ^ 64) e
    ∙ ap (λ (x : ℕ). x % 2 ^ 64)
    (add-mul (built (has m) n * 2 ^ b) (built g b) (2 ^ n)
    ∙ ap (λ (x : ℕ). x + built g b * 2 ^ n) (mul_assoc (built (has m) n) (2 ^ b) (2 ^ n) ∙ ap (λ (x : ℕ). built (has m) n * x) q))
    ∙ low (built (has m) n) 64 fits

no_product : (x n : ℕ) → eqb (x * 2 ^ n) 0 ≡ eqb x 0
no_product zero n = rw (zero-mul (2 ^ n))
no_product (suc x) n =
    let p : 0 < suc x * 2 ^ n = mul-pos (zero-lt-suc x) (pow_pos n) in
    ne_eqb (suc x * 2 ^ n) 0 (λ e. absurd (omega arith)) ∙ sym (ne_eqb (suc x) 0 (λ e. absurd (omega arith)))

moved : (m n : ℕ) → n ≤ 64 → any (λ j. has m (n + j)) (64 - n) ≡ past_stops m n
unfolding past_stops
moved m n l =
    same_test (any (λ j. has m (n + j)) (64 - n)) (any (λ j. leb n j && has m j) 64)
    (λ t.
    let (k, lk, p) = any_some (λ j. has m (n + j)) (64 - n) t in
    any_at (λ j. leb n j && has m j) 64 (n + k) (omega arith) (both (le-leb n (n + k) (omega arith)) p))
    (λ t.
    let (k, lk, p) = any_some (λ j. leb n j && has m j) 64 t in
    let g = leb-true n k (both_left (leb n k) (has m k) p) in
    let e : n + (k - n) ≡ k = omega arith in
    any_at (λ j. has m (n + j)) (64 - n) (k - n) (omega arith) (ap (has m) e ∙ both_right (leb n k) (has m k) p))

pub past_shift : (m n : ℕ) → m < 2 ^ 64 → n ≤ 64 → not (eqb (m * 2 ^ n % 2 ^ 64) 0) ≡ past_stops m n
past_shift m n h l =
    ap (λ (x : ℕ). not (eqb x 0)) (shifted m n h l) ∙ ap not (no_product (built (λ j. has m (n + j)) (64 - n)) n)
    ∙ built_zero (λ j. has m (n + j)) (64 - n) ∙ moved m n l

pub past_all : (m n : ℕ) → 64 ≤ n → past_stops m n ≡ false
unfolding past_stops
past_all m n h = none_any (λ j. leb n j && has m j) 64 (λ j l. rw (lt-leb n j (omega arith)))

pub past_some : (m n : ℕ) {past : Bool} → past ≡ past_stops m n → past ≡ true → n < 64
past_some m n e t = ⊎_elim (λ (l : n < 64). l) (λ (l : 64 ≤ n). absurd (not_both (sym e ∙ t) (past_all m n l))) (less? n 64)

-- a mask with no stop past the first n has none there
pub past_none : (m n j : ℕ) → past_stops m n ≡ false → n ≤ j → j < 64 → has m j ≡ false
unfolding past_stops
past_none m n j h l k =
    ⊎_elim
    (λ (t : has m j ≡ true).
    absurd (not_both (any_at (λ i. leb n i && has m i) 64 j k (both (le-leb n j l) t)) h))
    (λ (t : has m j ≡ false). t)
    (which (has m j))
