-- How large the results of operations can be: bounds that are powers of two, which are doubles themselves, so that rounding does not pass them. With
-- these the costs of a sheet are seen to be finite. Assumes nothing.
use Rattle.std.specs.Prelude.{◌≡◌, ℕ, zero, suc, ◌+◌, ◌-◌, ◌*◌, ◌^◌, ◌<◌, ◌≤◌, Bool, true, false, cond, ◌⊎◌, Float}
use Rattle.std.proofs.Common.{add-zero, zero-mul, zero-lt-suc, mul-one, one-mul, mul_assoc, mul_comm, mul_right_comm, mul_left_comm, mul-pos, mul-le-mul, mul-le-mul_right, le_trans, le_of_eq, le_of_mul-le-mul_right, eq-zero-or-pos, arith, sym, ap, ◌∙◌, subst, inl, inr, lit<, lit≤, pow-add, pow_pos, lt-ltb, ltb-false, ne_eqb}
use Rattle.std.specs.Bool.{beq}
use Rattle.std.proofs.Math.Pow.{pow-lt}
use Rattle.std.specs.Float.{nan, inf, fin, binary64}
use Rattle.std.specs.Float.Ieee.{of_bits, round, sum, up, down, lt, le, eq, neg, add, sub, mul, div, of_int}
use Rattle.std.specs.Float.Ieee.Bits.{is_true}
use Rattle.std.specs.Float.Ieee.Fits.{up_pos, down_pos}
use Rattle.std.specs.Float.Ieee.Exact.{HasValue, round_exact}
use Rattle.std.specs.Float.Ieee.Order.{round_mono}
use Rattle.laws.specs.Bools.{never}
use Rattle.laws.specs.Folds.{fold}
use Rattle.fp.specs.Num as Num
use Rattle.fp.specs.Num.{one, million, abs, plus, minus, times, over, max_zero, finite, natural, apart}
use Rattle.fp.specs.Order.{le_tells, no_digits}
use Rattle.fp.specs.Nonneg.{round_nonneg, unsigned}
use Rattle.fp.specs.Ranges.{least_speed, is_position, is_mass, is_speed, is_tick_rate}
use Rattle.fp.specs.Inside.{AtMost, within_low, position_size, mass_size, speed_finite, speed_least, tick_rate_finite}
use Rattle.fp.specs.Apart.{abs_round, abs_sum, size, size_le}

pub size_mono : (j k : ℕ) (x : Float) → j ≤ k → AtMost j x → AtMost k x
size_mono j k nan l p = p
size_mono j k (inf s) l p = p
size_mono j k (fin s m e) l p = le_trans p (mul-le-mul_right (down e) l)

-- ---- rounding

of_abs : (k : ℕ) (x : Float) → AtMost k (abs x) → AtMost k x
of_abs k nan p = p
of_abs k (inf s) p = p
of_abs k (fin s m e) p = p

-- 2^k is a double
power_value : (k : ℕ) → k ≤ 1023 → HasValue (round binary64 false (2 ^ k) 1) false (2 ^ k) 1
power_value k h =
    let e : 1 * 2 ^ (k + 1074) ≡ 2 ^ (k + 1074) = one-mul (2 ^ (k + 1074)) in
    round_exact binary64 false (2 ^ k) 1 1 (k + 1074) (lit< tt) (lit< tt)
    (subst (λ (n : ℕ). n < 2 ^ 2098) (sym e) (pow-lt {j = 2098} (omega arith)))
    (sym (mul-one (1 * 2 ^ (k + 1074)) ∙ e ∙ pow-add 2 k 1074))

under : (n : ℕ) (x y : Float) → le Num.zero x ≡ true → le x y ≡ true → HasValue y false n 1 → AtMost n x
unfolding le lt eq of_bits
under n nan y z h v = never z
under n (inf true) y z h v = never z
under n (inf false) nan z h v = absurd v
under n (inf false) (inf t) z h v = absurd v
under n (inf false) (fin t o d) z h v = never h
under n (fin true m e) y z h v = omega (arith, unsigned m e z)
under n (fin false m e) nan z h v = absurd v
under n (fin false m e) (inf t) z h v = absurd v
under n (fin false m e) (fin true o d) z h v = never (sym v.0)
under n (fin false m e) (fin false o d) z h v =
    let (a, b, l) = le_tells (fin false m e) (fin false o d) h in
    let g : m * up e * down d ≤ o * up d * down e = ltb-false (o * up d * down e) (m * up e * down d) l in
    let w : o * up d ≡ n * down d = sym (mul-one (o * up d)) ∙ v.1 in
    le_of_mul-le-mul_right
    (le_trans g (le_of_eq (ap (λ (k : ℕ). k * down e) w ∙ mul_right_comm n (down d) (down e))))
    (down_pos d)

-- a / b is at most 2^k, and so is what it is rounded to
pub round_size : (k : ℕ) (s : Bool) (a b : ℕ) → k ≤ 1023 → 0 < b → a ≤ 2 ^ k * b → AtMost (2 ^ k) (round binary64 s a b)
round_size k s a b l p h =
    of_abs (2 ^ k) (round binary64 s a b)
    (subst (λ (x : Float). AtMost (2 ^ k) x) (sym (abs_round binary64 s a b))
    (under (2 ^ k) (round binary64 false a b) (round binary64 false (2 ^ k) 1) (round_nonneg a b p)
    (is_true _ (round_mono binary64 a b (2 ^ k) 1 p (lit< tt) (le_trans (le_of_eq (mul-one a)) h)))
    (power_value k l)))

-- ---- the operations

pub natural_size : (k n : ℕ) → k ≤ 1023 → n ≤ 2 ^ k → AtMost (2 ^ k) (natural n)
unfolding of_int
natural_size k n l h = round_size k false n 1 l (lit< tt) (le_trans h (le_of_eq (sym (mul-one (2 ^ k)))))

pub neg_size : (k : ℕ) (x : Float) → AtMost k x → AtMost k (neg x)
unfolding neg
neg_size k nan p = p
neg_size k (inf s) p = p
neg_size k (fin s m e) p = p

pub abs_size : (k : ℕ) (x : Float) → AtMost k x → AtMost k (abs x)
abs_size k nan p = p
abs_size k (inf s) p = p
abs_size k (fin s m e) p = p

pub max_zero_size : (k : ℕ) (x : Float) → AtMost k x → AtMost k (max_zero x)
unfolding of_bits
max_zero_size k x p = by (lt Num.zero x)
  where
    by : (b : Bool) → AtMost k (cond b x Num.zero)
    by true = p
    by false = omega arith

-- a side of a sum over the product of the denominators
side : (k m u d e : ℕ) → m * u ≤ k * d → m * u * e ≤ k * (d * e)
side k m u d e h = le_trans (mul-le-mul_right e h) (le_of_eq (mul_assoc k d e))

-- a sum that is rounded once
pub sum_size : (k : ℕ) (s : Bool) (a : ℕ) (t : Bool) (b c : ℕ) → k < 1023 → 0 < c → a ≤ 2 ^ k * c → b ≤ 2 ^ k * c
    → AtMost (2 ^ (k + 1)) (sum binary64 s a t b c)
sum_size k s a t b c l pos h g =
    let w : 2 ^ (k + 1) * c ≡ 2 ^ k * c + 2 ^ k * c = rw (pow-add 2 k 1) (omega (arith, mul_right_comm (2 ^ k) 2 c)) in
    of_abs (2 ^ (k + 1)) (sum binary64 s a t b c)
    (subst (λ (x : Float). AtMost (2 ^ (k + 1)) x) (sym (abs_sum s a t b c))
    (round_size (k + 1) false (size (beq s t) a b) c (omega arith) pos (omega (arith, size_le (beq s t) a b))))

pub plus_size : (k : ℕ) (x y : Float) → k < 1023 → AtMost (2 ^ k) x → AtMost (2 ^ k) y → AtMost (2 ^ (k + 1)) (plus x y)
unfolding add
plus_size k nan y l p q = absurd p
plus_size k (inf s) y l p q = absurd p
plus_size k (fin s m e) nan l p q = absurd q
plus_size k (fin s m e) (inf t) l p q = absurd q
plus_size k (fin s m e) (fin t n d) l p q =
    sum_size k s (m * up e * down d) t (n * up d * down e) (down e * down d) l (mul-pos (down_pos e) (down_pos d))
    (side (2 ^ k) m (up e) (down e) (down d) p)
    (le_trans (side (2 ^ k) n (up d) (down d) (down e) q) (le_of_eq (ap (λ (j : ℕ). 2 ^ k * j) (mul_comm (down d) (down e)))))

pub minus_size : (k : ℕ) (x y : Float) → k < 1023 → AtMost (2 ^ k) x → AtMost (2 ^ k) y → AtMost (2 ^ (k + 1)) (minus x y)
unfolding sub
minus_size k x y l p q = plus_size k x (neg y) l p (neg_size (2 ^ k) y q)

exchange : (a b c d : ℕ) → a * b * (c * d) ≡ a * c * (b * d)
exchange a b c d = simp (mul_assoc, mul_left_comm)

pub apart_size : (k : ℕ) (x y : Float) → k < 1023 → AtMost (2 ^ k) x → AtMost (2 ^ k) y → AtMost (2 ^ (k + 1)) (apart x y)
unfolding apart
apart_size k x y l p q = abs_size (2 ^ (k + 1)) (minus x y) (minus_size k x y l p q)

pub times_size : (j k : ℕ) (x y : Float) → j + k ≤ 1023 → AtMost (2 ^ j) x → AtMost (2 ^ k) y → AtMost (2 ^ (j + k)) (times x y)
unfolding mul
times_size j k nan y l p q = absurd p
times_size j k (inf s) y l p q = absurd p
times_size j k (fin s m e) nan l p q = absurd q
times_size j k (fin s m e) (inf t) l p q = absurd q
times_size j k (fin s m e) (fin t n d) l p q =
    round_size (j + k) _ (m * up e * (n * up d)) (down e * down d) l (mul-pos (down_pos e) (down_pos d))
    (le_trans (mul-le-mul p q) (le_of_eq (exchange (2 ^ j) (down e) (2 ^ k) (down d) ∙ ap (λ (c : ℕ). c * (down e * down d)) (sym (pow-add 2 j k)))))

-- finite, and at least 2^-i
abbrev pub AtLeast : ℕ → Float → Type 0
AtLeast i nan = ⊥
AtLeast i (inf s) = ⊥
AtLeast i (fin true n d) = ⊥
AtLeast i (fin false n d) = down d ≤ n * up d * 2 ^ i

pub over_size : (j i : ℕ) (x y : Float) → j + i ≤ 1023 → AtMost (2 ^ j) x → AtLeast i y → AtMost (2 ^ (j + i)) (over x y)
unfolding div
over_size j i nan y l p q = absurd p
over_size j i (inf s) y l p q = absurd p
over_size j i (fin s m e) nan l p q = absurd q
over_size j i (fin s m e) (inf t) l p q = absurd q
over_size j i (fin s m e) (fin true n d) l p q = absurd q
over_size j i (fin s m e) (fin false zero d) l p q =
    absurd (omega (arith, down_pos d, q, ap (λ (k : ℕ). k * 2 ^ i) (zero-mul (up d)), zero-mul (2 ^ i)))
over_size j i (fin s m e) (fin false (suc n) d) l p q =
    rw (ne_eqb (suc n) 0 (λ (z : suc n ≡ 0). omega arith))
    (round_size (j + i) _ (m * up e * down d) (suc n * up d * down e) l (mul-pos (mul-pos (zero-lt-suc n) (up_pos d)) (down_pos e))
    (le_trans (mul-le-mul p q)
    (le_of_eq (turn (2 ^ j) (down e) (suc n * up d) (2 ^ i) ∙ ap (λ (c : ℕ). c * (suc n * up d * down e)) (sym (pow-add 2 j i))))))
  where
    turn : (a b c d : ℕ) → a * b * (c * d) ≡ a * d * (c * b)
    turn a b c d = simp (mul_assoc, mul_comm, mul_left_comm)

-- ---- from below

-- 2^-i is a double
least_value : (i : ℕ) → i ≤ 1074 → HasValue (round binary64 false 1 (2 ^ i)) false 1 (2 ^ i)
least_value i h =
    let e : 1 * 2 ^ (1074 - i) ≡ 2 ^ (1074 - i) = one-mul (2 ^ (1074 - i)) in
    round_exact binary64 false 1 (2 ^ i) 1 (1074 - i) (pow_pos i) (lit< tt)
    (subst (λ (n : ℕ). n < 2 ^ 2098) (sym e) (pow-lt {j = 2098} (omega arith)))
    (sym (ap (λ (n : ℕ). n * 2 ^ i) e ∙ sym (pow-add 2 (1074 - i) i) ∙ ap (λ (n : ℕ). 2 ^ n) (fill i h)))
  where
    fill : (i : ℕ) → i ≤ 1074 → 1074 - i + i ≡ 1074
    fill i h = omega arith

beyond : (i k : ℕ) (y x : Float) → HasValue y false 1 (2 ^ i) → le y x ≡ true → AtMost k x → AtLeast i x
unfolding lt
beyond i k nan x v h f = absurd v
beyond i k (inf s) x v h f = absurd v
beyond i k (fin true o d) x v h f = never (sym v.0)
beyond i k (fin false o d) nan v h f = absurd f
beyond i k (fin false o d) (inf t) v h f = absurd f
beyond i k (fin false o d) (fin true m e) v h f =
    let (a, b, l) = le_tells (fin false o d) (fin true m e) h in
    let g : m * up e * down d + o * up d * down e ≤ 0 = ltb-false 0 (m * up e * down d + o * up d * down e) l in
    let z : o * up d ≡ 0 = no_digits (o * up d) (down e) (down_pos e) (omega arith) in
    absurd (omega (arith, v.1, ap (λ (n : ℕ). n * 2 ^ i) z, zero-mul (2 ^ i), one-mul (down d), down_pos d))
beyond i k (fin false o d) (fin false m e) v h f =
    let (a, b, l) = le_tells (fin false o d) (fin false m e) h in
    let g : o * up d * down e ≤ m * up e * down d = ltb-false (m * up e * down d) (o * up d * down e) l in
    le_of_mul-le-mul_right
    (le_trans
    (le_of_eq (mul_comm (down e) (down d) ∙ ap (λ (n : ℕ). n * down e) (sym (v.1 ∙ one-mul (down d))) ∙ mul_right_comm (o * up d) (2 ^ i) (down e)))
    (le_trans (mul-le-mul_right (2 ^ i) g) (le_of_eq (mul_right_comm (m * up e) (down d) (2 ^ i)))))
    (down_pos d)

-- a / b is at least 2^-i, and so is what it is rounded to, where that is finite
round_least : (i k a b : ℕ) → i ≤ 1074 → 0 < b → b ≤ a * 2 ^ i → AtMost k (round binary64 false a b) → AtLeast i (round binary64 false a b)
round_least i k a b h p l f =
    beyond i k (round binary64 false 1 (2 ^ i)) (round binary64 false a b) (least_value i h)
    (is_true _ (round_mono binary64 1 (2 ^ i) a b (pow_pos i) p (le_trans (le_of_eq (one-mul b)) l))) f

pub times_least : (i j k : ℕ) (x y : Float) → i + j ≤ 1074 → AtLeast i x → AtLeast j y → AtMost k (times x y) → AtLeast (i + j) (times x y)
unfolding mul
times_least i j k nan y h p q f = absurd p
times_least i j k (inf s) y h p q f = absurd p
times_least i j k (fin true m e) y h p q f = absurd p
times_least i j k (fin false m e) nan h p q f = absurd q
times_least i j k (fin false m e) (inf s) h p q f = absurd q
times_least i j k (fin false m e) (fin true n d) h p q f = absurd q
times_least i j k (fin false m e) (fin false n d) h p q f =
    round_least (i + j) k (m * up e * (n * up d)) (down e * down d) h (mul-pos (down_pos e) (down_pos d))
    (le_trans (mul-le-mul p q)
    (le_of_eq (exchange (m * up e) (2 ^ i) (n * up d) (2 ^ j) ∙ ap (λ (c : ℕ). m * up e * (n * up d) * c) (sym (pow-add 2 i j)))))
    f

pub plus_least : (i j k : ℕ) (x y : Float) → i ≤ 1074 → AtLeast i x → AtLeast j y → AtMost k (plus x y) → AtLeast i (plus x y)
unfolding add sum
plus_least i j k nan y h p q f = absurd p
plus_least i j k (inf s) y h p q f = absurd p
plus_least i j k (fin true m e) y h p q f = absurd p
plus_least i j k (fin false m e) nan h p q f = absurd q
plus_least i j k (fin false m e) (inf s) h p q f = absurd q
plus_least i j k (fin false m e) (fin true n d) h p q f = absurd q
plus_least i j k (fin false m e) (fin false n d) h p q f =
    round_least i k (m * up e * down d + n * up d * down e) (down e * down d) h (mul-pos (down_pos e) (down_pos d))
    (le_trans (mul-le-mul_right (down d) p)
    (le_trans (le_of_eq (mul_right_comm (m * up e) (2 ^ i) (down d))) (mul-le-mul_right (2 ^ i) (more (m * up e * down d) (n * up d * down e)))))
    f
  where
    more : (a b : ℕ) → a ≤ a + b
    more a b = omega arith

-- it is above zero
pub least_above : (i : ℕ) (x : Float) → AtLeast i x → lt Num.zero x ≡ true
unfolding lt of_bits
least_above i nan p = absurd p
least_above i (inf s) p = absurd p
least_above i (fin true n d) p = absurd p
least_above i (fin false n d) p =
    lt-ltb (0 * down d) (n * up d * 1) (some (n * up d) (2 ^ i) (down d) (down_pos d) p (eq-zero-or-pos (n * up d)))
  where
    some : (a u c : ℕ) → 0 < c → c ≤ a * u → (a ≡ 0) ⊎ (0 < a) → 0 * c < a * 1
    some a u c s l (inl z) = absurd (omega (arith, ap (λ (n : ℕ). n * u) z, zero-mul u))
    some a u c s l (inr g) = omega (arith, zero-mul c)

-- ---- a walk that adds: each turn doubles the bound at most

pub fold_size : (g : Float → ℕ → Float) (j n : ℕ) (z : Float) → j + n ≤ 1023 → AtMost (2 ^ j) z
    → ((k i : ℕ) (a : Float) → k < n → j ≤ i → i < 1023 → AtMost (2 ^ i) a → AtMost (2 ^ (i + 1)) (g a k)) → AtMost (2 ^ (j + n)) (fold g z n)
unfolding fold
fold_size g j zero z l p h = rw (add-zero j) p
fold_size g j (suc n) z l p h =
    let e : j + n + 1 ≡ j + suc n = omega arith in
    rw (← e)
    (h n (j + n) (fold g z n) (omega arith) (omega arith) (omega arith)
    (fold_size g j n z (omega arith) p (λ k i a u v w q. h k i a (omega arith) v w q)))

-- ---- a sheet's doubles

pub position_power : (x : Float) → is_position x ≡ true → AtMost (2 ^ 20) x
position_power x h = size_mono 1_000_000 (2 ^ 20) x (lit≤ tt) (position_size x h)

pub mass_power : (x : Float) → is_mass x ≡ true → AtMost (2 ^ 30) x
mass_power x h = size_mono 1_000_000_000 (2 ^ 30) x (lit≤ tt) (mass_size x h)

-- from 1/1,024 on it is at least 2^-10
pub least_power : (x : Float) → finite x ≡ true → le least_speed x ≡ true → AtLeast 10 x
unfolding lt of_bits
least_power nan f l = never f
least_power (inf s) f l = never f
least_power (fin true n d) f l =
    let (a, b, g) = le_tells least_speed (fin true n d) l in
    absurd (omega (arith, ltb-false 0 (n * up d * 1024 + 1 * 1 * down d) g, down_pos d))
least_power (fin false n d) f l =
    let (a, b, g) = le_tells least_speed (fin false n d) l in omega (arith, ltb-false (n * up d * 1024) (1 * 1 * down d) g)

-- a speed above zero is
pub speed_power : (x : Float) → is_speed x ≡ true → lt Num.zero x ≡ true → AtLeast 10 x
speed_power x h p = least_power x (speed_finite x h) (speed_least x h p)

-- a tick rate is at least 1
pub tick_rate_power : (x : Float) → is_tick_rate x ≡ true → AtLeast 0 x
unfolding is_tick_rate lt of_bits
tick_rate_power x h = by x (tick_rate_finite x h) (within_low one x million h)
  where
    by : (y : Float) → finite y ≡ true → le one y ≡ true → AtLeast 0 y
    by nan f l = never f
    by (inf s) f l = never f
    by (fin true n d) f l =
        let (a, b, g) = le_tells one (fin true n d) l in absurd (omega (arith, ltb-false 0 (n * up d * 1 + 1 * 1 * down d) g, down_pos d))
    by (fin false n d) f l = let (a, b, g) = le_tells one (fin false n d) l in omega (arith, ltb-false (n * up d * 1) (1 * 1 * down d) g)
