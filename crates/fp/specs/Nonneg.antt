-- Doubles that are at least zero: le zero x. None of them is a NaN or below zero; minus zero is one of them. Sums of them, and products and quotients
-- of finite ones, are again such. Assumes nothing.
use Rattle.std.specs.Prelude.{◌≡◌, ℕ, zero, suc, ◌+◌, ◌-◌, ◌*◌, ◌^◌, ◌<◌, ◌≤◌, Bool, true, false, cond, T, ℤ, nat_lt, refl, Float}
use Rattle.std.proofs.Common.{zero-mul, mul-zero, mul-pos, zero-lt-suc, arith, sym, ◌∙◌, subst, lit<, ltb-true, ltb-false, le-ltb, ne_eqb}
use Rattle.std.specs.Float.{nan, inf, fin, binary64}
use Rattle.std.specs.Float.Ieee.{of_bits, round, sum, up, down, lt, le, eq, neg, add, sub, mul, div, of_int}
use Rattle.std.specs.Float.Ieee.Bits.{is_true}
use Rattle.std.specs.Float.Ieee.Fits.{up_pos, down_pos}
use Rattle.std.specs.Float.Ieee.Exact.{HasValue, round_exact}
use Rattle.std.specs.Float.Ieee.Order.{round_mono}
use Rattle.laws.specs.Bools.{never}
use Rattle.fp.specs.Num as Num
use Rattle.fp.specs.Num.{plus, minus, times, over, abs, max_zero, finite, natural}
use Rattle.fp.specs.Order.{real, lt_right, lt_asym, le_not, le_tells, le_self, no_digits}

-- ---- what it says of a double's form

zero_real : real Num.zero ≡ true
unfolding of_bits
zero_real = refl

pub nonneg : (x : Float) → real x ≡ true → lt x Num.zero ≡ false → le Num.zero x ≡ true
nonneg x p h = le_not Num.zero x zero_real p h

-- a sign that is set has no digits
pub unsigned : (m : ℕ) (e : ℤ) → le Num.zero (fin true m e) ≡ true → m * up e ≡ 0
unfolding lt of_bits
unsigned m e h =
    let (p, q, l) = le_tells Num.zero (fin true m e) h in
    let g : m * up e * 1 + 0 * down e ≤ 0 = ltb-false 0 (m * up e * 1 + 0 * down e) l in
    omega (arith, zero-mul (down e))

clear : (m : ℕ) (e : ℤ) → le Num.zero (fin false m e) ≡ true
unfolding lt of_bits
clear m e = nonneg (fin false m e) refl (le-ltb (m * up e * 1) (0 * down e) (omega (arith, zero-mul (down e))))

set : (m : ℕ) (e : ℤ) → m ≡ 0 → le Num.zero (fin true m e) ≡ true
unfolding lt of_bits
set m e h =
    nonneg (fin true m e) refl
    (le-ltb 0 (m * up e * 1 + 0 * down e) (rw (h, zero-mul (up e)) (omega (arith, zero-mul (down e)))))

infinite : le Num.zero (inf false) ≡ true
unfolding le lt of_bits
infinite = refl

-- ---- rounding

zero_round : Num.zero ≡ round binary64 false 0 1
unfolding of_bits round
zero_round = refl

pub round_nonneg : (a b : ℕ) → 0 < b → le Num.zero (round binary64 false a b) ≡ true
round_nonneg a b h =
    is_true _
    (subst (λ (x : Float). T (le x (round binary64 false a b))) (sym zero_round)
    (round_mono binary64 0 1 a b (lit< tt) h (omega (arith, zero-mul b))))

value_zero : (x : Float) (s : Bool) (c : ℕ) → 0 < c → HasValue x s 0 c → le Num.zero x ≡ true
value_zero nan s c l v = absurd v
value_zero (inf t) s c l v = absurd v
value_zero (fin false m e) s c l v = clear m e
value_zero (fin true m e) s c l v = set m e (no_digits m (up e) (up_pos e) (no_digits (m * up e) c l (v.1 ∙ zero-mul (down e))))

-- a zero of either sign
round_zero : (s : Bool) (a b : ℕ) → 0 < b → a ≡ 0 → le Num.zero (round binary64 s a b) ≡ true
round_zero s a b l h =
    rw h
    (value_zero (round binary64 s 0 b) s b l
    (round_exact binary64 s 0 b 0 0 l (lit< tt) (lit< tt) (zero-mul (2 ^ 1074) ∙ sym (zero-mul b))))

-- ---- the operations

-- one of two: what a test picks
pick : (b : Bool) (x y : Float) → le Num.zero x ≡ true → le Num.zero y ≡ true → le Num.zero (cond b x y) ≡ true
pick true x y p q = p
pick false x y p q = q

-- a / c less b / c, where b is at most a; and what is left of nothing
left : (a b c : ℕ) → 0 < c → b ≤ a → le Num.zero (sum binary64 false a true b c) ≡ true
unfolding sum
left a b c l h = rw (le-ltb a b h) (round_nonneg (a - b) c l)

right : (a b c : ℕ) → 0 < c → a ≤ b → le Num.zero (sum binary64 true a false b c) ≡ true
unfolding sum
right a b c l h = rw (le-ltb b a h) (pick (nat_lt a b) _ _ (round_nonneg (b - a) c l) (round_nonneg (a - b) c l))

both_clear : (a b c : ℕ) → 0 < c → le Num.zero (sum binary64 false a false b c) ≡ true
unfolding sum
both_clear a b c l = round_nonneg (a + b) c l

both_set : (a b c : ℕ) → 0 < c → a ≡ 0 → b ≡ 0 → le Num.zero (sum binary64 true a true b c) ≡ true
unfolding sum
both_set a b c l p q = round_zero true (a + b) c l (omega arith)

-- the digits times a power that lies on the other side
none : (a d : ℕ) → a ≡ 0 → a * d ≡ 0
none a d h = rw h (zero-mul d)

pub plus_nonneg : (x y : Float) → le Num.zero x ≡ true → le Num.zero y ≡ true → le Num.zero (plus x y) ≡ true
unfolding add le of_bits
plus_nonneg nan y p q = p
plus_nonneg (inf true) y p q = never p
plus_nonneg (inf false) nan p q = q
plus_nonneg (inf false) (inf true) p q = never q
plus_nonneg (inf false) (inf false) p q = infinite
plus_nonneg (inf false) (fin t n d) p q = infinite
plus_nonneg (fin s m e) nan p q = q
plus_nonneg (fin s m e) (inf true) p q = never q
plus_nonneg (fin s m e) (inf false) p q = infinite
plus_nonneg (fin false m e) (fin false n d) p q = both_clear _ _ _ (mul-pos (down_pos e) (down_pos d))
plus_nonneg (fin false m e) (fin true n d) p q =
    left (m * up e * down d) (n * up d * down e) _ (mul-pos (down_pos e) (down_pos d)) (omega (arith, none (n * up d) (down e) (unsigned n d q)))
plus_nonneg (fin true m e) (fin false n d) p q =
    right (m * up e * down d) (n * up d * down e) _ (mul-pos (down_pos e) (down_pos d)) (omega (arith, none (m * up e) (down d) (unsigned m e p)))
plus_nonneg (fin true m e) (fin true n d) p q =
    both_set _ _ _ (mul-pos (down_pos e) (down_pos d)) (none (m * up e) (down d) (unsigned m e p)) (none (n * up d) (down e) (unsigned n d q))

-- a difference of finite doubles, the second at most the first
pub minus_nonneg : (x y : Float) → finite x ≡ true → finite y ≡ true → lt x y ≡ false → le Num.zero (minus x y) ≡ true
unfolding sub add neg lt
minus_nonneg nan y p q h = never p
minus_nonneg (inf s) y p q h = never p
minus_nonneg (fin s m e) nan p q h = never q
minus_nonneg (fin s m e) (inf t) p q h = never q
minus_nonneg (fin false m e) (fin false n d) p q h =
    left (m * up e * down d) (n * up d * down e) _ (mul-pos (down_pos e) (down_pos d)) (ltb-false _ _ h)
minus_nonneg (fin false m e) (fin true n d) p q h = both_clear _ _ _ (mul-pos (down_pos e) (down_pos d))
minus_nonneg (fin true m e) (fin false n d) p q h =
    let g = ltb-false 0 (m * up e * down d + n * up d * down e) h in
    both_set _ _ _ (mul-pos (down_pos e) (down_pos d)) (omega arith) (omega arith)
minus_nonneg (fin true m e) (fin true n d) p q h =
    right (m * up e * down d) (n * up d * down e) _ (mul-pos (down_pos e) (down_pos d)) (ltb-false _ _ h)

pub times_nonneg : (x y : Float) → finite x ≡ true → finite y ≡ true → le Num.zero x ≡ true → le Num.zero y ≡ true
    → le Num.zero (times x y) ≡ true
unfolding mul
times_nonneg nan y f g p q = never f
times_nonneg (inf s) y f g p q = never f
times_nonneg (fin s m e) nan f g p q = never g
times_nonneg (fin s m e) (inf t) f g p q = never g
times_nonneg (fin false m e) (fin false n d) f g p q = round_nonneg _ _ (mul-pos (down_pos e) (down_pos d))
times_nonneg (fin true m e) (fin true n d) f g p q = round_nonneg _ _ (mul-pos (down_pos e) (down_pos d))
times_nonneg (fin false m e) (fin true n d) f g p q =
    round_zero true (m * up e * (n * up d)) _ (mul-pos (down_pos e) (down_pos d)) (rw (unsigned n d q) (mul-zero (m * up e)))
times_nonneg (fin true m e) (fin false n d) f g p q =
    round_zero true (m * up e * (n * up d)) _ (mul-pos (down_pos e) (down_pos d)) (rw (unsigned m e p) (zero-mul (n * up d)))

-- a quotient by a double above zero
pub over_nonneg : (x y : Float) → finite x ≡ true → finite y ≡ true → le Num.zero x ≡ true → lt Num.zero y ≡ true
    → le Num.zero (over x y) ≡ true
unfolding div lt of_bits
over_nonneg nan y f g p q = never f
over_nonneg (inf s) y f g p q = never f
over_nonneg (fin s m e) nan f g p q = never g
over_nonneg (fin s m e) (inf t) f g p q = never g
over_nonneg (fin s m e) (fin true n d) f g p q = never q
over_nonneg (fin s m e) (fin false zero d) f g p q =
    absurd (omega (arith, ltb-true (0 * down d) (0 * up d * 1) q, zero-mul (up d)))
over_nonneg (fin false m e) (fin false (suc n) d) f g p q =
    rw (ne_eqb (suc n) 0 (λ (z : suc n ≡ 0). omega arith)) (round_nonneg _ _ (mul-pos (mul-pos (zero-lt-suc n) (up_pos d)) (down_pos e)))
over_nonneg (fin true m e) (fin false (suc n) d) f g p q =
    rw (ne_eqb (suc n) 0 (λ (z : suc n ≡ 0). omega arith))
    (round_zero true (m * up e * down d) _ (mul-pos (mul-pos (zero-lt-suc n) (up_pos d)) (down_pos e)) (none (m * up e) (down d) (unsigned m e p)))

pub abs_nonneg : (x : Float) → real x ≡ true → le Num.zero (abs x) ≡ true
abs_nonneg nan p = never p
abs_nonneg (inf s) p = infinite
abs_nonneg (fin s m e) p = clear m e

pub max_zero_nonneg : (x : Float) → le Num.zero (max_zero x) ≡ true
max_zero_nonneg x = by (lt Num.zero x) refl
  where
    by : (b : Bool) → lt Num.zero x ≡ b → le Num.zero (cond b x Num.zero) ≡ true
    by true h = nonneg x (lt_right Num.zero x h) (lt_asym Num.zero x h)
    by false h = le_self Num.zero zero_real

pub natural_nonneg : (n : ℕ) → le Num.zero (natural n) ≡ true
unfolding of_int
natural_nonneg n = round_nonneg n 1 (lit< tt)

-- what is at most a finite double is finite
pub finite_under : (x y : Float) → le Num.zero x ≡ true → le x y ≡ true → finite y ≡ true → finite x ≡ true
unfolding le lt eq of_bits
finite_under nan y p q f = p
finite_under (inf true) y p q f = p
finite_under (inf false) nan p q f = never f
finite_under (inf false) (inf t) p q f = never f
finite_under (inf false) (fin t n d) p q f = q
finite_under (fin s m e) y p q f = refl
