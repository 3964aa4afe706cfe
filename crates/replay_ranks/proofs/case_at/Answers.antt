-- replay_ranks::case_at meets its contract.
use Prim.Native.Nat.{◌*◌, ◌≤◌}
use native.Mathlib.Nat.{mul-le-mul}
use native.Mathlib.Omega.{arith}
use Rattle.replay_ranks.specs.Ranks.{case_at}
use Rattle.replay_ranks.proofs.case_at.Goals as goal
use Rattle.replay_ranks.proofs.case_at.Goals.{After-number-stops}

-- no more than 65,536 pairs
few : (c : After-number-stops) → c.number-cars.result * c.number-stops.result ≤ 65536
few c =
    mul-le-mul {n₁ = c.number-cars.result} {m₁ = c.number-stops.result} {n₂ = 256} {m₂ = 256} (omega (arith, c.number-cars.ensures.small))
    (omega (arith, c.number-stops.ensures.small))

pub returns : goal.returns
unfolding case_at
returns c = cc
