-- cars::four_from meets its contract.
use Prim.Native.Nat.{◌+◌, ◌≤◌, ◌-◌}
use Rattle.cars.specs.Cars.{blank}
use Rattle.laws.specs.Tables.{tab}
use Rattle.layout.specs.Records.{sheet_of}
use lib.ListN.{length, get_or, drop, replicate}
use mathlib.Core.List.{◌++◌}
use mathlib.Core.Path.{◌≡◌}
use Rattle.cars.proofs.four_from.Given as goal

abbrev pub invariant-loop-k : goal.invariant-loop-k
invariant-loop-k l =
    (l.k ≤ l.n) × (length l.cars ≡ 4) × (l.cars ≡ tab (λ i. (sheet_of l.s l.c).car (get_or l.idle.at (l.first + i) 0)) l.k ++ drop l.k (replicate 4 blank))
