-- assignment.rs's scale_cost: a cost as a whole number of millionths, the cell of the matrix. "cost × 1,000,000, half away from zero, held to
-- 281,474,976,710,655. No rank, or not kept: 281,474,976,710,656, the sentinel." Assumes nothing.
use Rattle.std.specs.Prelude.{ℕ, ◌+◌, ◌*◌, ◌/◌, ◌≤◌, ◌<◌, min, ◌≡◌, refl, Bool, true, false, not, ◌&&◌, cond, ltb, ℤ, Float}
use Rattle.std.proofs.Math.Nat.{min-le_right, min-eq_left, min-eq_right}
use Rattle.std.proofs.Common.{le_of_lt, le_of_eq, arith, sym, true≢false, ltb-true, ltb-false, le-ltb}
use Rattle.std.proofs.lemmas.Bool.{not-true}
use Rattle.laws.specs.Bools.{both_left, both_right}
use Rattle.std.specs.Float.{nan, inf, fin}
use Rattle.std.specs.Float.Ieee.{up, down, lt}
use Rattle.fp.specs.Num.{zero, million, times, finite}

abbrev pub sentinel : ℕ
sentinel = 281_474_976_710_656

abbrev pub ceiling : ℕ
ceiling = 281_474_976_710_655

-- a / b to the nearest whole number, a half going up: the whole part of a / b + 1 / 2
abbrev pub half_up : ℕ → ℕ → ℕ
half_up a b = (2 * a + b) / (2 * b)

-- Rust's y.round().clamp(0.0, 281474976710655.0) as i64, on the value m * 2^e, which is m * up e / down e
unfoldable pub whole : Float → ℕ
whole nan = 0
whole (inf true) = 0
whole (inf false) = ceiling
whole (fin true m e) = 0
whole (fin false m e) = min (half_up (m * up e) (down e)) ceiling

-- the sentinel for a cost that is not finite or is below zero, else the product, which is rounded to a double, as a whole number
unfoldable pub scale_cost : Float → ℕ
scale_cost x = cond (finite x) (cond (lt x zero) sentinel (whole (times x million))) sentinel

-- whether the value m * 2^e, as a whole number, is above the ceiling; an infinite value is
unfoldable pub above_ceiling : Float → Bool
above_ceiling nan = false
above_ceiling (inf s) = not s
above_ceiling (fin true m e) = false
above_ceiling (fin false m e) = ltb ceiling (half_up (m * up e) (down e))

-- request F-5: "The scaling step is to say whether it held the value down."; of a cost whose cell is the sentinel, it did not
unfoldable pub held_down : Float → Bool
held_down x = finite x && (not (lt x zero) && above_ceiling (times x million))

-- ---- laws

pub whole_le : (y : Float) → whole y ≤ ceiling
unfolding whole
whole_le nan = omega arith
whole_le (inf true) = omega arith
whole_le (inf false) = omega arith
whole_le (fin true m e) = omega arith
whole_le (fin false m e) = min-le_right _ _

-- every cell is at most the sentinel
pub scale_cost_le : (x : Float) → scale_cost x ≤ sentinel
unfolding scale_cost
scale_cost_le x = by (finite x) (lt x zero)
  where
    by : (a b : Bool) → cond a (cond b sentinel (whole (times x million))) sentinel ≤ sentinel
    by true true = omega arith
    by true false = omega (arith, whole_le (times x million))
    by false b = omega arith

-- a cost that is finite and not below zero is below it, in assignment.rs's words "so any real rank always beats unavailable"
pub scale_cost_lt : (x : Float) → finite x ≡ true → lt x zero ≡ false → scale_cost x < sentinel
unfolding scale_cost
scale_cost_lt x f n = rw (f, n) (omega (arith, whole_le (times x million)))

-- ---- what held down says of a cell

pub above_held : (y : Float) → above_ceiling y ≡ true → whole y ≡ ceiling
unfolding whole above_ceiling
above_held nan h = absurd (true≢false (sym h))
above_held (inf true) h = absurd (true≢false (sym h))
above_held (inf false) h = refl
above_held (fin true m e) h = absurd (true≢false (sym h))
above_held (fin false m e) h = min-eq_right (le_of_lt (ltb-true ceiling (half_up (m * up e) (down e)) h))

-- a value that is not above the ceiling is the cell
pub not_above : (m : ℕ) (e : ℤ) → above_ceiling (fin false m e) ≡ false → whole (fin false m e) ≡ half_up (m * up e) (down e)
unfolding whole above_ceiling
not_above m e h = min-eq_left (ltb-false ceiling (half_up (m * up e) (down e)) h)

-- "A value that rounds exactly to the ceiling isn't held."
pub exactly : (m : ℕ) (e : ℤ) → half_up (m * up e) (down e) ≡ ceiling → above_ceiling (fin false m e) ≡ false
unfolding above_ceiling
exactly m e h = le-ltb ceiling (half_up (m * up e) (down e)) (le_of_eq h)

-- a cost that was held down has the ceiling as its cell
pub held_ceiling : (x : Float) → held_down x ≡ true → scale_cost x ≡ ceiling
unfolding scale_cost held_down
held_ceiling x h =
    let f = both_left (finite x) (not (lt x zero) && above_ceiling (times x million)) h in
    let r = both_right (finite x) (not (lt x zero) && above_ceiling (times x million)) h in
    let n = not-true (lt x zero) (both_left (not (lt x zero)) (above_ceiling (times x million)) r) in
    rw (f, n) (above_held (times x million) (both_right (not (lt x zero)) (above_ceiling (times x million)) r))

-- one that was not has its product, m * 2^e, as a whole number
pub not_held : (x : Float) (m : ℕ) (e : ℤ) → finite x ≡ true → lt x zero ≡ false → times x million ≡ fin false m e → held_down x ≡ false
    → scale_cost x ≡ half_up (m * up e) (down e)
unfolding scale_cost held_down
not_held x m e f n p h = let q : above_ceiling (fin false m e) ≡ false = rw (f, n, p) at h in rw (f, n, p) (not_above m e q)
