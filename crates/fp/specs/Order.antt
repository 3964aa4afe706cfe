-- The order of doubles. On all that are no NaN, `lt` is a strict weak order and `le` its complement, total and transitive; two that are level are
-- equal but for the sign of zero. Assumes nothing.
use Rattle.std.specs.Prelude.{◌≡◌, ℕ, zero, suc, ◌+◌, ◌*◌, ◌/◌, ◌^◌, ◌<◌, ◌≤◌, Bool, true, false, not, ◌&&◌, ◌||◌, T, ◌≢◌, ◌⊎◌, ℤ, pos, negsuc, ◌==◌, nat_eq, nat_lt, refl, Float}
use Rattle.std.proofs.Common.{zero-lt-suc, mul-one, one-mul, mul-pos, mul_right_comm, add-mul, mul-le-mul_right, le_of_mul-le-mul_right, arith, sym, ap, ◌∙◌, inl, inr, ⊎_elim, eqb→eq, ltb-true, ltb-false, lt-ltb, le-ltb, eqb-true, eq-eqb, ne_eqb}
use Rattle.std.specs.Bool.{beq}
use Rattle.std.proofs.Math.Bool.{and-true}
use Rattle.std.proofs.Math.Pow.{pow-lt}
use Rattle.std.specs.Float.{nan, inf, fin, binary64}
use Rattle.std.specs.Float.Ieee.{fits, of_bits, to_bits, up, down, below, level, lt, le, eq}
use Rattle.std.specs.Float.Ieee.Fits.{up_pos, down_pos}
use Rattle.std.specs.Float.Ieee.Nearest.{div_same}
use Rattle.std.specs.Float.Ieee.Bits.{of_bits-to_bits}
use Rattle.laws.specs.Bools.{which, never, not_both, same?, less?, either, either_right, both_left, both_right, eqb_comm}
use Rattle.fp.specs.Num as Num
use Rattle.fp.specs.Num.{finite, abs}

-- not a NaN
abbrev pub real : Float → Bool
real nan = false
real (inf s) = true
real (fin s m e) = true

pub finite_real : (x : Float) → finite x ≡ true → real x ≡ true
finite_real nan h = h
finite_real (inf s) h = refl
finite_real (fin s m e) h = refl

-- ---- ±a as a difference of two numbers, over which the four cases of signs are one

abbrev over : Bool → ℕ → ℕ
over false a = a
over true a = 0

abbrev under : Bool → ℕ → ℕ
under false a = 0
under true a = a

over_mul : (s : Bool) (a k : ℕ) → over s (a * k) ≡ over s a * k
over_mul false a k = refl
over_mul true a k = omega arith

under_mul : (s : Bool) (a k : ℕ) → under s (a * k) ≡ under s a * k
under_mul false a k = omega arith
under_mul true a k = refl

below_true : (s : Bool) (a : ℕ) (t : Bool) (b : ℕ) → below s a t b ≡ true → over s a + under t b < over t b + under s a
below_true false a false b h = omega (arith, ltb-true a b h)
below_true false a true b h = never h
below_true true a false b h = omega (arith, ltb-true 0 (a + b) h)
below_true true a true b h = omega (arith, ltb-true b a h)

below_false : (s : Bool) (a : ℕ) (t : Bool) (b : ℕ) → below s a t b ≡ false → over t b + under s a ≤ over s a + under t b
below_false false a false b h = omega (arith, ltb-false a b h)
below_false false a true b h = omega arith
below_false true a false b h = omega (arith, ltb-false 0 (a + b) h)
below_false true a true b h = omega (arith, ltb-false b a h)

not_below : (s : Bool) (a : ℕ) (t : Bool) (b : ℕ) → over t b + under s a ≤ over s a + under t b → below s a t b ≡ false
not_below false a false b h = le-ltb a b (omega arith)
not_below false a true b h = refl
not_below true a false b h = le-ltb 0 (a + b) (omega arith)
not_below true a true b h = le-ltb b a (omega arith)

-- x <= y and y <= z, as fractions with the denominators p, q and k
chain : (xo xu yo yu zo zu p q k : ℕ) → 0 < q → xo * q + yu * p ≤ yo * p + xu * q → yo * k + zu * q ≤ zo * q + yu * k
    → xo * k + zu * p ≤ zo * p + xu * k
chain xo xu yo yu zo zu p q k l h g =
    let a : (xo * q + yu * p) * k ≤ (yo * p + xu * q) * k = mul-le-mul_right k h in
    let b : (yo * k + zu * q) * p ≤ (zo * q + yu * k) * p = mul-le-mul_right p g in
    le_of_mul-le-mul_right {k = q}
    (omega (
      arith,
      add-mul (xo * q) (yu * p) k,
      add-mul (yo * p) (xu * q) k,
      add-mul (yo * k) (zu * q) p,
      add-mul (zo * q) (yu * k) p,
      add-mul (xo * k) (zu * p) q,
      add-mul (zo * p) (xu * k) q,
      mul_right_comm xo q k,
      mul_right_comm yu p k,
      mul_right_comm yo p k,
      mul_right_comm xu q k,
      mul_right_comm zu q p,
      mul_right_comm zo q p,
    ))
    l

-- the same of signed numbers
chain_below : (r : Bool) (a : ℕ) (s : Bool) (b : ℕ) (t : Bool) (c : ℕ) (p q k : ℕ) → 0 < q → below s (b * p) r (a * q) ≡ false
    → below t (c * q) s (b * k) ≡ false → below t (c * p) r (a * k) ≡ false
chain_below r a s b t c p q k l h g =
    not_below t (c * p) r (a * k)
    (simp (over_mul, under_mul)
    (chain (over r a) (under r a) (over s b) (under s b) (over t c) (under t c) p q k l
    (simp (over_mul, under_mul) at (below_false s (b * p) r (a * q) h))
    (simp (over_mul, under_mul) at (below_false t (c * q) s (b * k) g))))

-- ---- lt

-- nothing is below minus infinity, and infinity is below nothing
lt_least : (x : Float) → lt x (inf true) ≡ false
unfolding lt
lt_least nan = refl
lt_least (inf true) = refl
lt_least (inf false) = refl
lt_least (fin s m e) = refl

lt_most : (x : Float) → lt (inf false) x ≡ false
unfolding lt
lt_most nan = refl
lt_most (inf s) = refl
lt_most (fin s m e) = refl

lt_nan : (x : Float) → lt x nan ≡ false
unfolding lt
lt_nan nan = refl
lt_nan (inf s) = refl
lt_nan (fin s m e) = refl

pub lt_left : (x y : Float) → lt x y ≡ true → real x ≡ true
unfolding lt
lt_left nan y h = h
lt_left (inf s) y h = refl
lt_left (fin s m e) y h = refl

pub lt_right : (x y : Float) → lt x y ≡ true → real y ≡ true
lt_right x nan h = absurd (not_both h (lt_nan x))
lt_right x (inf s) h = refl
lt_right x (fin s m e) h = refl

below_self : (s : Bool) (a : ℕ) → below s a s a ≡ false
below_self s a = not_below s a s a (omega arith)

pub lt_self : (x : Float) → lt x x ≡ false
unfolding lt
lt_self nan = refl
lt_self (inf true) = refl
lt_self (inf false) = refl
lt_self (fin s m e) = below_self s (m * up e * down e)

pub lt_asym : (x y : Float) → lt x y ≡ true → lt y x ≡ false
unfolding lt
lt_asym nan y h = never h
lt_asym (inf true) y h = lt_least y
lt_asym (inf false) y h = absurd (not_both h (lt_most y))
lt_asym (fin s m e) nan h = never h
lt_asym (fin s m e) (inf true) h = never h
lt_asym (fin s m e) (inf false) h = refl
lt_asym (fin s m e) (fin t n d) h =
    not_below t (n * up d * down e) s (m * up e * down d) (omega (arith, below_true s (m * up e * down d) t (n * up d * down e) h))

-- x is not above y, and y not above z: x is not above z
pub le_through : (x y z : Float) → real y ≡ true → lt y x ≡ false → lt z y ≡ false → lt z x ≡ false
unfolding lt
le_through x nan z r p q = never r
le_through nan (inf s) z r p q = lt_nan z
le_through (inf true) (inf s) z r p q = lt_least z
le_through (inf false) (inf true) z r p q = never (sym p)
le_through (inf false) (inf false) nan r p q = refl
le_through (inf false) (inf false) (inf true) r p q = q
le_through (inf false) (inf false) (inf false) r p q = refl
le_through (inf false) (inf false) (fin t n d) r p q = q
le_through (fin s m e) (inf true) z r p q = never (sym p)
le_through (fin s m e) (inf false) nan r p q = refl
le_through (fin s m e) (inf false) (inf true) r p q = never (sym q)
le_through (fin s m e) (inf false) (inf false) r p q = refl
le_through (fin s m e) (inf false) (fin t n d) r p q = never (sym q)
le_through nan (fin t n d) z r p q = lt_nan z
le_through (inf true) (fin t n d) z r p q = lt_least z
le_through (inf false) (fin t n d) z r p q = never (sym p)
le_through (fin s m e) (fin t n d) nan r p q = refl
le_through (fin s m e) (fin t n d) (inf true) r p q = never (sym q)
le_through (fin s m e) (fin t n d) (inf false) r p q = refl
le_through (fin s m e) (fin t n d) (fin u o c) r p q =
    chain_below s (m * up e) t (n * up d) u (o * up c) (down e) (down d) (down c) (down_pos d) p q

pub lt_trans : (x y z : Float) → lt x y ≡ true → lt y z ≡ true → lt x z ≡ true
lt_trans x y z p q =
    ⊎_elim
    (λ (h : lt x z ≡ true). h)
    (λ (h : lt x z ≡ false). absurd (not_both p (le_through y z x (lt_right y z q) (lt_asym y z q) h)))
    (which (lt x z))

-- what is below what is not above is below
pub lt_le_trans : (x y z : Float) → real z ≡ true → lt x y ≡ true → lt z y ≡ false → lt x z ≡ true
lt_le_trans x y z r p q =
    ⊎_elim
    (λ (h : lt x z ≡ true). h)
    (λ (h : lt x z ≡ false). absurd (not_both p (le_through y z x r q h)))
    (which (lt x z))

pub le_lt_trans : (x y z : Float) → real x ≡ true → lt y x ≡ false → lt y z ≡ true → lt x z ≡ true
le_lt_trans x y z r p q =
    ⊎_elim
    (λ (h : lt x z ≡ true). h)
    (λ (h : lt x z ≡ false). absurd (not_both q (le_through z x y r h p)))
    (which (lt x z))

-- ---- le

either_way : (a b : ℕ) → (nat_lt a b || a == b) ≡ not (nat_lt b a)
either_way a b =
    ⊎_elim
    (λ (l : a < b). rw (lt-ltb a b l, le-ltb b a (omega arith)))
    (λ (l : b ≤ a).
    ⊎_elim
    (λ (e : a ≡ b). rw (le-ltb a b l, eq-eqb a b e, le-ltb b a (omega arith)))
    (λ n. rw (le-ltb a b l, ne_eqb a b n, lt-ltb b a (omega arith)))
    (same? a b))
    (less? a b)

below_level : (s : Bool) (a : ℕ) (t : Bool) (b : ℕ) → (below s a t b || level s a t b) ≡ not (below t b s a)
below_level false a false b = rw (and-true (a == b)) (either_way a b)
below_level true a true b = rw (and-true (a == b), eqb_comm a b) (either_way b a)
below_level false a true b =
    ⊎_elim
    (λ (l : 0 < b + a). rw (lt-ltb 0 (b + a) l) (unlike l (same? a b)))
    (λ (l : b + a ≤ 0). rw (le-ltb 0 (b + a) l, eq-eqb a b (omega arith), eq-eqb a 0 (omega arith)))
    (less? 0 (b + a))
  where
    unlike : 0 < b + a → (a ≡ b) ⊎ (a ≢ b) → (a == b && a == 0) ≡ false
    unlike l (inl e) = rw (eq-eqb a b e, ne_eqb a 0 (λ n. absurd (omega arith)))
    unlike l (inr n) = rw (ne_eqb a b n)
below_level true a false b =
    ⊎_elim
    (λ (l : 0 < a + b). rw (lt-ltb 0 (a + b) l))
    (λ (l : a + b ≤ 0). rw (le-ltb 0 (a + b) l, eq-eqb a b (omega arith), eq-eqb a 0 (omega arith)))
    (less? 0 (a + b))

-- on all but NaNs, at most is not above
pub le_is : (x y : Float) → real x ≡ true → real y ≡ true → le x y ≡ not (lt y x)
unfolding le lt eq
le_is nan y p q = never p
le_is (inf s) nan p q = never q
le_is (inf true) (inf true) p q = refl
le_is (inf true) (inf false) p q = refl
le_is (inf false) (inf true) p q = refl
le_is (inf false) (inf false) p q = refl
le_is (inf true) (fin t n d) p q = refl
le_is (inf false) (fin t n d) p q = refl
le_is (fin s m e) nan p q = never q
le_is (fin s m e) (inf true) p q = refl
le_is (fin s m e) (inf false) p q = refl
le_is (fin s m e) (fin t n d) p q = below_level s (m * up e * down d) t (n * up d * down e)

pub le_not : (x y : Float) → real x ≡ true → real y ≡ true → lt y x ≡ false → le x y ≡ true
le_not x y p q h = le_is x y p q ∙ ap not h

turned : (x y : Float) → real x ≡ true → real y ≡ true → le x y ≡ true → lt y x ≡ false
turned x y p q h = not-true (lt y x) (sym (le_is x y p q) ∙ h)
  where
    not-true : (b : Bool) → not b ≡ true → b ≡ false
    not-true true e = sym e
    not-true false e = refl

-- what `le` tells: neither is a NaN, and the left is not above
pub le_tells : (x y : Float) → le x y ≡ true → (real x ≡ true) × (real y ≡ true) × (lt y x ≡ false)
unfolding le lt eq
le_tells nan y h = never h
le_tells (inf s) nan h = never h
le_tells (fin s m e) nan h = never h
le_tells (inf s) (inf t) h = (refl, refl, turned (inf s) (inf t) refl refl h)
le_tells (inf s) (fin t n d) h = (refl, refl, turned (inf s) (fin t n d) refl refl h)
le_tells (fin s m e) (inf t) h = (refl, refl, turned (fin s m e) (inf t) refl refl h)
le_tells (fin s m e) (fin t n d) h = (refl, refl, turned (fin s m e) (fin t n d) refl refl h)

pub le_self : (x : Float) → real x ≡ true → le x x ≡ true
le_self x p = le_not x x p p (lt_self x)

pub le_total : (x y : Float) → real x ≡ true → real y ≡ true → (le x y ≡ true) ⊎ (le y x ≡ true)
le_total x y p q =
    ⊎_elim
    (λ (h : lt y x ≡ true). inr (le_not y x q p (lt_asym y x h)))
    (λ (h : lt y x ≡ false). inl (le_not x y p q h))
    (which (lt y x))

pub le_trans : (x y z : Float) → le x y ≡ true → le y z ≡ true → le x z ≡ true
le_trans x y z p q =
    let (a, b, h) = le_tells x y p in
    let (b', c, g) = le_tells y z q in
    le_not x z a c (le_through x y z b h g)

pub lt-le : (x y : Float) → lt x y ≡ true → le x y ≡ true
lt-le x y h = le_not x y (lt_left x y h) (lt_right x y h) (lt_asym x y h)

-- at most each other is level
pub le_antisym : (x y : Float) → le x y ≡ true → le y x ≡ true → eq x y ≡ true
unfolding le
le_antisym x y p q =
    let (a, b, h) = le_tells y x q in
    ⊎_elim (λ (e : lt x y ≡ true). absurd (not_both e h)) (λ (e : eq x y ≡ true). e) (either (lt x y) (eq x y) p)

like : (s t : Bool) → beq s t ≡ true → s ≡ t
like true true h = refl
like true false h = never h
like false true h = never h
like false false h = refl

level_not : (s : Bool) (a : ℕ) (t : Bool) (b : ℕ) → level s a t b ≡ true → below s a t b ≡ false
level_not s a t b h =
    let p : a ≡ b = eqb-true a b (both_left (a == b) (beq s t || a == 0) h) in
    ⊎_elim
    (λ (l : beq s t ≡ true). rw (like s t l, p) (below_self t b))
    (λ (o : nat_eq a 0 ≡ true). rw (sym p ∙ eqb-true a 0 o, eqb-true a 0 o) (not_below s 0 t 0 (by s t)))
    (either (beq s t) (a == 0) (both_right (a == b) (beq s t || a == 0) h))
  where
    by : (s t : Bool) → over t 0 + under s 0 ≤ over s 0 + under t 0
    by true true = omega arith
    by true false = omega arith
    by false true = omega arith
    by false false = omega arith

-- level doubles: neither is below the other
pub eq_not_lt : (x y : Float) → eq x y ≡ true → lt x y ≡ false
unfolding eq lt
eq_not_lt nan y h = never h
eq_not_lt (inf s) nan h = never h
eq_not_lt (inf true) (inf true) h = refl
eq_not_lt (inf true) (inf false) h = never h
eq_not_lt (inf false) (inf t) h = refl
eq_not_lt (inf s) (fin t n d) h = never h
eq_not_lt (fin s m e) nan h = refl
eq_not_lt (fin s m e) (inf t) h = never h
eq_not_lt (fin s m e) (fin t n d) h = level_not s (m * up e * down d) t (n * up d * down e) h

pub eq-le : (x y : Float) → eq x y ≡ true → le x y ≡ true
unfolding le
eq-le x y h = either_right (lt x y) (eq x y) h

pub eq_ge : (x y : Float) → eq x y ≡ true → le y x ≡ true
eq_ge x y h = let (a, b, l) = le_tells x y (eq-le x y h) in le_not y x b a (eq_not_lt x y h)

-- ---- level doubles are equal, or both zeros

-- a zero that fits has one exponent
pub zero_exp : (e : ℤ) → up e * down e ≡ 1 → e ≡ pos 0
zero_exp (pos zero) h = refl
zero_exp (pos (suc k)) h = let g : 2 ^ 0 < 2 ^ suc k = pow-lt (zero-lt-suc k) in absurd (omega (arith, mul-one (2 ^ suc k)))
zero_exp (negsuc k) h = let g : 2 ^ 0 < 2 ^ suc k = pow-lt (zero-lt-suc k) in absurd (omega (arith, one-mul (2 ^ suc k)))

-- a product with a power is 0 only at 0
pub no_digits : (m u : ℕ) → 0 < u → m * u ≡ 0 → m ≡ 0
no_digits zero u p h = refl
no_digits (suc m) u p h = absurd (omega (arith, mul-pos (zero-lt-suc m) p))

zero_only : (s : Bool) (m : ℕ) (e : ℤ) → T (fits binary64 (fin s m e)) → m ≡ 0 → fin false m e ≡ Num.zero
unfolding fits of_bits
zero_only s zero e f h = ap (fin false 0) (zero_exp e (eqb→eq (up e * down e) 1 f))
zero_only s (suc m) e f h = absurd (omega arith)

same_bits : (s : Bool) (m n : ℕ) (e d : ℤ) → m * up e * down d ≡ n * up d * down e
    → to_bits binary64 (fin s m e) ≡ to_bits binary64 (fin s n d)
unfolding to_bits
same_bits s m n e d h =
    let same : m * up e * 2 ^ 1074 / down e ≡ n * up d * 2 ^ 1074 / down d =
    div_same (m * up e * 2 ^ 1074) (down e) (n * up d * 2 ^ 1074) (down d) (down_pos e) (down_pos d)
    (mul_right_comm (m * up e) (2 ^ 1074) (down d) ∙ ap (λ (k : ℕ). k * 2 ^ 1074) h ∙ mul_right_comm (n * up d) (down e) (2 ^ 1074)) in
    rw same

-- antisymmetric up to the sign of zero
pub eq_same : (x y : Float) → T (fits binary64 x) → T (fits binary64 y) → eq x y ≡ true
    → (x ≡ y) ⊎ ((abs x ≡ Num.zero) × (abs y ≡ Num.zero))
unfolding eq
eq_same nan y f g h = never h
eq_same (inf s) nan f g h = never h
eq_same (inf s) (inf t) f g h = inl (ap inf (like s t h))
eq_same (inf s) (fin t n d) f g h = never h
eq_same (fin s m e) nan f g h = never h
eq_same (fin s m e) (inf t) f g h = never h
eq_same (fin s m e) (fin t n d) f g h =
    let p : m * up e * down d ≡ n * up d * down e = eqb-true _ _ (both_left (m * up e * down d == n * up d * down e) _ h) in
    ⊎_elim
    (λ (l : beq s t ≡ true).
    inl
    (sym (of_bits-to_bits binary64 (fin s m e) f)
    ∙ ap (of_bits binary64) (same_bits s m n e d p ∙ ap (λ (u : Bool). to_bits binary64 (fin u n d)) (like s t l))
    ∙ of_bits-to_bits binary64 (fin t n d) g))
    (λ (o : nat_eq (m * up e * down d) 0 ≡ true).
    let q = eqb-true (m * up e * down d) 0 o in
    inr (
      zero_only s m e f (no_digits m (up e) (up_pos e) (no_digits (m * up e) (down d) (down_pos d) q)),
      zero_only t n d g (no_digits n (up d) (up_pos d) (no_digits (n * up d) (down e) (down_pos e) (sym p ∙ q))),
    ))
    (either (beq s t) (m * up e * down d == 0) (both_right (m * up e * down d == n * up d * down e) _ h))
