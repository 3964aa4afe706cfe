-- The demand stops between a car and a stop, from counts that are made once: how many lie short of each of the two, and how many lie up to it.
-- Assumes nothing.
use Prim.Native.Nat.{ℕ, ◌+◌, ◌-◌, ◌*◌, ◌/◌, ◌%◌, ◌≤◌, ◌<◌}
use Rattle.std.proofs.Common.{arith, ◌∙◌}
use Rattle.std.specs.Prelude.{◌≡◌, Bool, ◌&&◌, length, drop, replicate, Float}
use Rattle.std.proofs.Math.Path.{ap}
use Rattle.std.proofs.Math.Bool.{not, cond}
use mathlib.Core.List.{List, ◌++◌}
use Rattle.std.proofs.Math.ListN.{get_or}
use Rattle.std.specs.Float.Ieee.{nan, lt}
use Rattle.laws.specs.Folds.{count}
use Rattle.laws.specs.Tables.{tab, get_or-tab, tab-length}
use Rattle.fp.specs.Num.{epsilon, infinity, plus, minus}
use Rattle.mask.specs.Mask.{has}
use Rattle.etd.specs.Pairs.{halts_at}

-- the place of a stop: its position where it has demand, infinity for any other, and for a position that is not below infinity
unfoldable pub place_of : Bool → Float → Float
place_of demand q = cond (demand && lt q infinity) q infinity

-- the places of the first n stops: there are 64, all others infinity
unfoldable pub demand_places : ℕ → List Float → ℕ → List Float
demand_places demand xs n = tab (λ k. place_of (has demand k) (get_or xs k nan)) n ++ drop n (replicate 64 infinity)

-- how many of the first n places lie short of x, by more than 1e-9
unfoldable pub short_of : List Float → ℕ → Float → ℕ
short_of places n x = count (λ k. lt (get_or places k nan) (minus x epsilon)) n

-- how many lie up to it: not past it by more than 1e-9
unfoldable pub up_to : List Float → ℕ → Float → ℕ
up_to places n x = count (λ k. not (lt (plus x epsilon) (get_or places k nan))) n

-- both in one number
unfoldable pub counts_at : List Float → ℕ → Float → ℕ
counts_at places n x = short_of places n x * 128 + up_to places n x

-- those of stop j
unfoldable pub stop_counts : ℕ → List Float → ℕ → ℕ → ℕ
stop_counts demand xs n j = counts_at (demand_places demand xs n) n (get_or xs j nan)

-- a table that holds them for each of n stops
pub record HoldsCounts (demand : ℕ) (xs : List Float) (n : ℕ) (table : List ℕ) : Type 0 where
  pub size : n ≤ length table
  pub at : (j : ℕ) → j < n → get_or table j 0 ≡ stop_counts demand xs n j

-- the places between a car at x and a stop at p, from the counts of the two: those short of the upper one, less those up to the lower
unfoldable pub halts_between : Float → Float → ℕ → ℕ → ℕ
halts_between x p car stop = cond (lt x p) (stop / 128 - car % 128) (car / 128 - stop % 128)

-- what is left in a list that was filled
filled : (f : ℕ → ℕ) (n : ℕ) (entry exit : List ℕ) → n ≤ length entry → exit ≡ tab f n ++ drop n entry
    → (n ≤ length exit) × ((j : ℕ) → j < n → get_or exit j 0 ≡ f j)
filled f n entry exit room e =
    (omega (arith, tab-length f n entry exit room e), λ j l. ap (λ (t : List ℕ). get_or t j 0) e ∙ get_or-tab f n j (drop n entry) 0 l)

pub counts_held : (demand : ℕ) (xs : List Float) (n : ℕ) (entry exit : List ℕ) → n ≤ length entry
    → exit ≡ tab (stop_counts demand xs n) n ++ drop n entry → HoldsCounts demand xs n exit
counts_held demand xs n entry exit room e =
    let (size, at) = filled (stop_counts demand xs n) n entry exit room e in record { size = size; at = at }

pub halts_held : (x : Float) (demand : ℕ) (xs : List Float) (n : ℕ) (entry exit : List ℕ) → n ≤ length entry
    → exit ≡ tab (halts_at x demand xs n) n ++ drop n entry → (n ≤ length exit) × ((j : ℕ) → j < n → get_or exit j 0 ≡ halts_at x demand xs n j)
halts_held x demand xs n entry exit room e = filled (halts_at x demand xs n) n entry exit room e
