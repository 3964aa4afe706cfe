-- etd::demand_places meets its contract.
use Prim.Native.Nat.{ℕ, ◌≤◌, ◌-◌}
use mathlib.Core.Path.{◌≡◌}
use mathlib.Core.List.{List, ◌++◌}
use lib.ListN.{length, get_or, drop, replicate}
use lib.Ieee.{Float, nan}
use Rattle.laws.specs.Tables.{tab}
use Rattle.mask.specs.Mask.{has}
use Rattle.fp.specs.Num.{infinity}
use Rattle.etd.specs.Halts.{place_of}
use Rattle.etd.proofs.demand_places.Given as goal

abbrev pub place : ℕ → List Float → ℕ → Float
place demand xs k = place_of (has demand k) (get_or xs k nan)

abbrev pub invariant-loop-k : goal.invariant-loop-k
invariant-loop-k l = (l.k ≤ l.n) × (length l.places ≡ 64) × (l.places ≡ tab (place l.demand l.xs) l.k ++ drop l.k (replicate 64 infinity))
