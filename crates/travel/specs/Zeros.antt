-- `f64::max` may give either zero for -0.0 and 0.0; `max_zero` gives 0.0. Braking all the way the difference is the same: its root is a zero of that
-- sign, and a speed above zero is left as it is by either. There the speed is above zero, since the braking distance is. Assumes nothing.
use Rattle.std.specs.Prelude.{ℕ, ◌+◌, ◌-◌, ◌*◌, ◌≤◌, ◌≡◌, refl, true, false, Float}
use Rattle.std.proofs.Common.{zero-mul, arith, sym, ap, ◌∙◌}
use Rattle.std.specs.Float.{nan, inf, fin, binary64}
use Rattle.std.specs.Float.Ieee.{up, down, round, neg, add, sub, lt, of_bits}
use Rattle.laws.specs.Bools.{never}
use Rattle.fp.specs.Num.{zero, minus}
use Rattle.rounding.specs.Sums.{sum_plus, sum_more}
use Rattle.square_root.specs.SquareRoot.{square_root}

pub either_zero : (v : Float) → lt zero v ≡ true → minus v (square_root (neg zero)) ≡ minus v (square_root zero)
unfolding square_root neg sub add lt of_bits
either_zero nan l = never l
either_zero (inf true) l = never l
either_zero (inf false) l = refl
either_zero (fin true m e) l = never l
either_zero (fin false m e) l =
    let z = zero-mul (down e) in
    sum_plus binary64 false (m * up e * 1) (0 * down e) (down e * 1)
    ∙ ap (λ (k : ℕ). round binary64 false k (down e * 1)) (rest (m * up e * 1) (0 * down e) z)
    ∙ sym (sum_more binary64 false (m * up e * 1) (0 * down e) (down e * 1) (low (m * up e * 1) (0 * down e) z))
  where
    rest : (a b : ℕ) → b ≡ 0 → a + b ≡ a - b
    rest a b z = omega arith

    low : (a b : ℕ) → b ≡ 0 → b ≤ a
    low a b z = omega arith
