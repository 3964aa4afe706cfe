-- mask::list_ones meets its contract.
use Prim.Native.Nat.{◌-◌}
use Rattle.mask.specs.Ones.{Listing}
use Rattle.mask.proofs.list_ones.Given as goal

abbrev pub invariant-loop-at : goal.invariant-loop-at
invariant-loop-at l = Listing l.mask l.j l.count l.at

abbrev pub decreases-loop-at : goal.decreases-loop-at
decreases-loop-at l = 64 - l.j
