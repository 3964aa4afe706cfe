-- The cut over what the code holds: the viable stops as a mask, the distances as a list. Assumes nothing.
use Rattle.std.specs.Prelude.{ℕ, ◌≤◌, ◌<◌, ◌≡◌, Bool, false, ◌&&◌, not, List, get_or, Float}
use Rattle.std.specs.Float.{nan}
use Rattle.laws.specs.Folds.{count}
use Rattle.mask.specs.Mask.{has}
use Rattle.assignment.specs.Candidates.{keeps, precedes}

-- pending, not restricted, on the car's line
unfoldable pub viable_by : ℕ → ℕ → ℕ → ℕ → Bool
viable_by pending restricted serves j = has pending j && (not (has restricted j) && has serves j)

-- the viable stop k comes before stop j; ids rise with the index
unfoldable pub comes_before : ℕ → List Float → ℕ → ℕ → Bool
comes_before viable ds j k = has viable k && precedes (get_or ds k nan) k (get_or ds j nan) j

-- stop j is viable, and the limit keeps it
unfoldable pub cut : ℕ → List Float → ℕ → ℕ → Bool
cut viable ds limit j = has viable j && keeps limit (count (comes_before viable ds j) 64)

-- none is viable from stop e on
pub record Reaches (viable e : ℕ) : Type 0 where
  pub within : e ≤ 64
  pub none : (k : ℕ) → e ≤ k → k < 64 → has viable k ≡ false
