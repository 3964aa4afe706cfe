-- coverage::Waiting::weight_at meets its contract.
use Prim.Native.Nat.{◌≤◌}
use Rattle.coverage.specs.Coverage.{weight_by}
use lib.ListN.{length}
use mathlib.Core.Path.{◌≡◌}
use Rattle.coverage.proofs.Waiting.weight_at.Given as goal

abbrev pub invariant-loop-w : goal.invariant-loop-w
invariant-loop-w l = (l.w ≤ length l.self.stops.now) × (l.a ≡ weight_by l.self.stops.now l.self.weights.now l.w l.id)
