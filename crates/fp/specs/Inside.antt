-- What the ranges give: each of their doubles is finite, masses and thresholds are at least zero, tick rates and speeds but zero are above it.
-- Assumes nothing.
use Rattle.std.specs.Prelude.{◌≡◌, ℕ, ◌+◌, ◌*◌, ◌≤◌, true, false, refl, Float}
use Rattle.std.proofs.Common.{arith, ⊎_elim, ltb-false}
use Rattle.std.specs.Float.{nan, inf, fin}
use Rattle.std.specs.Float.Ieee.{of_bits, up, down, lt, le, eq, neg}
use Rattle.laws.specs.Bools.{never, not_both, either, both_left, both_right}
use Rattle.fp.specs.Num.{zero, one, million, finite}
use Rattle.fp.specs.Ranges.{least_speed, thousand, billion, within, is_position, is_speed, is_mass, is_threshold, is_tick_rate}
use Rattle.fp.specs.Order.{le_tells, lt_le_trans, lt-le, eq-le, eq_ge}

pub within_low : (lo x hi : Float) → within lo x hi ≡ true → le lo x ≡ true
within_low lo x hi h = both_left (le lo x) (le x hi) h

pub within_high : (lo x hi : Float) → within lo x hi ≡ true → le x hi ≡ true
within_high lo x hi h = both_right (le lo x) (le x hi) h

bounded : (lo x hi : Float) → finite lo ≡ true → finite hi ≡ true → le lo x ≡ true → le x hi ≡ true → finite x ≡ true
unfolding le lt eq
bounded nan x hi a b c d = never a
bounded (inf s) x hi a b c d = never a
bounded (fin s m e) nan hi a b c d = c
bounded (fin s m e) (inf true) hi a b c d = c
bounded (fin s m e) (inf false) nan a b c d = never b
bounded (fin s m e) (inf false) (inf t) a b c d = never b
bounded (fin s m e) (inf false) (fin t n f) a b c d = d
bounded (fin s m e) (fin t n f) hi a b c d = refl

-- between finite ends all is finite
pub within_finite : (lo x hi : Float) → finite lo ≡ true → finite hi ≡ true → within lo x hi ≡ true → finite x ≡ true
within_finite lo x hi p q h = bounded lo x hi p q (within_low lo x hi h) (within_high lo x hi h)

-- ---- positions

pub position_finite : (x : Float) → is_position x ≡ true → finite x ≡ true
unfolding is_position of_bits neg
position_finite x h = within_finite (neg million) x million refl refl h

-- finite, and at most k in size
abbrev pub AtMost : ℕ → Float → Type 0
AtMost k nan = ⊥
AtMost k (inf s) = ⊥
AtMost k (fin s m e) = m * up e ≤ k * down e

pub size_finite : (k : ℕ) (x : Float) → AtMost k x → finite x ≡ true
size_finite k nan p = absurd p
size_finite k (inf s) p = absurd p
size_finite k (fin s m e) p = refl

pub position_size : (x : Float) → is_position x ≡ true → AtMost 1_000_000 x
unfolding is_position of_bits neg lt
position_size nan h = absurd (not_both (position_finite nan h) refl)
position_size (inf s) h = absurd (not_both (position_finite (inf s) h) refl)
position_size (fin false m e) h =
    let (a, b, l) = le_tells (fin false m e) million (within_high (neg million) (fin false m e) million h) in
    omega (arith, ltb-false (15625 * 64 * down e) (m * up e * 1) l)
position_size (fin true m e) h =
    let (a, b, l) = le_tells (neg million) (fin true m e) (within_low (neg million) (fin true m e) million h) in
    omega (arith, ltb-false (15625 * 64 * down e) (m * up e * 1) l)

-- ---- masses, thresholds, tick rates, speeds

pub mass_finite : (x : Float) → is_mass x ≡ true → finite x ≡ true
unfolding is_mass of_bits
mass_finite x h = within_finite zero x billion refl refl h

pub mass_nonneg : (x : Float) → is_mass x ≡ true → le zero x ≡ true
unfolding is_mass
mass_nonneg x h = within_low zero x billion h

pub mass_size : (x : Float) → is_mass x ≡ true → AtMost 1_000_000_000 x
unfolding is_mass of_bits lt
mass_size nan h = absurd (not_both (mass_finite nan h) refl)
mass_size (inf s) h = absurd (not_both (mass_finite (inf s) h) refl)
mass_size (fin false m e) h =
    let (a, b, l) = le_tells (fin false m e) billion (within_high zero (fin false m e) billion h) in
    omega (arith, ltb-false (1953125 * 512 * down e) (m * up e * 1) l)
mass_size (fin true m e) h =
    let (a, b, l) = le_tells zero (fin true m e) (within_low zero (fin true m e) billion h) in
    omega (arith, ltb-false 0 (m * up e * 1 + 0 * down e) l)

pub threshold_finite : (x : Float) → is_threshold x ≡ true → finite x ≡ true
unfolding is_threshold of_bits
threshold_finite x h = within_finite zero x thousand refl refl h

pub threshold_nonneg : (x : Float) → is_threshold x ≡ true → le zero x ≡ true
unfolding is_threshold
threshold_nonneg x h = within_low zero x thousand h

-- above zero: at least a double that is
pub above : (lo x : Float) → lt zero lo ≡ true → le lo x ≡ true → lt zero x ≡ true
above lo x p h = let (a, b, l) = le_tells lo x h in lt_le_trans zero lo x b p l

one_above : lt zero one ≡ true
unfolding lt of_bits
one_above = refl

least_speed_above : lt zero least_speed ≡ true
unfolding lt of_bits
least_speed_above = refl

pub tick_rate_finite : (x : Float) → is_tick_rate x ≡ true → finite x ≡ true
unfolding is_tick_rate of_bits
tick_rate_finite x h = within_finite one x million refl refl h

pub tick_rate_above : (x : Float) → is_tick_rate x ≡ true → lt zero x ≡ true
unfolding is_tick_rate
tick_rate_above x h = above one x one_above (within_low one x million h)

zero_finite : (x : Float) → eq x zero ≡ true → finite x ≡ true
unfolding eq of_bits
zero_finite nan h = h
zero_finite (inf s) h = h
zero_finite (fin s m e) h = refl

pub speed_finite : (x : Float) → is_speed x ≡ true → finite x ≡ true
unfolding is_speed of_bits
speed_finite x h =
    ⊎_elim
    (λ (z : eq x zero ≡ true). zero_finite x z)
    (λ (w : within least_speed x thousand ≡ true). within_finite least_speed x thousand refl refl w)
    (either (eq x zero) (within least_speed x thousand) h)

pub speed_nonneg : (x : Float) → is_speed x ≡ true → le zero x ≡ true
unfolding is_speed
speed_nonneg x h =
    ⊎_elim
    (λ (z : eq x zero ≡ true). eq_ge x zero z)
    (λ (w : within least_speed x thousand ≡ true). lt-le zero x (above least_speed x least_speed_above (within_low least_speed x thousand w)))
    (either (eq x zero) (within least_speed x thousand) h)

-- a speed above zero is at least 1/1,024
pub speed_least : (x : Float) → is_speed x ≡ true → lt zero x ≡ true → le least_speed x ≡ true
unfolding is_speed
speed_least x h p =
    ⊎_elim
    (λ (z : eq x zero ≡ true). let (a, b, l) = le_tells x zero (eq-le x zero z) in absurd (not_both p l))
    (λ (w : within least_speed x thousand ≡ true). within_low least_speed x thousand w)
    (either (eq x zero) (within least_speed x thousand) h)
