-- How long riders have waited at a stop, and the bonus for it: mod.rs. Assumes nothing.
use Rattle.std.specs.Prelude.{ℕ, cond, Float}
use Rattle.std.specs.Float.Ieee.{lt, neg}
use Rattle.laws.specs.Folds.{fold}
use Rattle.fp.specs.Num.{zero, plus, times, max_zero, fma, natural}
use Rattle.components.specs.Sheet.{Sheet}
use Rattle.manifest.specs.Manifest.{waits_at}

-- apply_fairness_bonus
unfoldable pub fairness_bonus : Float → Float → Float → Float
fairness_bonus cost weight term = max_zero (fma weight (neg term) cost)

-- a weight above 0 has its bonus applied
unfoldable pub with_bonus : Float → Float → Float → Float
with_bonus cost weight term = cond (lt zero weight) (fairness_bonus cost weight term) cost

-- one rider's part of each sum
abbrev pub wait_ticks : ℕ → Float
wait_ticks n = natural n

abbrev pub wait_ticks_squared : ℕ → Float
wait_ticks_squared n = times (natural n) (natural n)

module _ (s : Sheet) where
  -- the sum of f of the ticks of those who wait at stop j, in record order from 0.0
  unfoldable pub sum_at : (ℕ → Float) → ℕ → Float
  sum_at f j = fold (λ a w. cond (waits_at s j w) (plus a (f (s.waiting w).wait)) a) zero s.waits

  -- wait_ticks_sum
  unfoldable pub wait_ticks_sum : ℕ → Float
  wait_ticks_sum j = sum_at wait_ticks j

  -- wait_ticks_squared_sum
  unfoldable pub wait_ticks_squared_sum : ℕ → Float
  wait_ticks_squared_sum j = sum_at wait_ticks_squared j
