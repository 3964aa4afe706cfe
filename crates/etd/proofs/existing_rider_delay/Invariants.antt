-- etd::existing_rider_delay meets its contract.
use Prim.Native.Nat.{◌≤◌, ◌-◌}
use Rattle.etd.specs.Pairs.{delay_in}
use mathlib.Core.Path.{◌≡◌}
use Rattle.etd.proofs.existing_rider_delay.Given as goal

abbrev pub invariant-loop-k : goal.invariant-loop-k
invariant-loop-k l = (l.k ≤ l.n) × (l.delay ≡ delay_in l.x l.p l.speed l.dests.along.now l.dests.across.now l.k)
