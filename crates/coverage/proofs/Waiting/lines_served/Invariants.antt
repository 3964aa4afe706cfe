-- coverage::Waiting::lines_served meets its contract.
use Prim.Native.Nat.{◌≤◌}
use Rattle.coverage.specs.Coverage.{lines_served}
use mathlib.Core.Bool.{true}
use lib.ListN.{length}
use mathlib.Core.Path.{◌≡◌}
use Rattle.coverage.proofs.Waiting.lines_served.Given as goal

abbrev pub invariant-loop-w : goal.invariant-loop-w
invariant-loop-w l = (l.w ≤ length l.self.stops.now) × (true ≡ lines_served l.cars.targets.now l.cars.lines.now (length l.cars.targets.now) l.self.stops.now l.self.required.now l.w l.id)
