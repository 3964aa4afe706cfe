-- coverage::Serving::line_served meets its contract.
use Prim.Native.Nat.{◌≤◌}
use Rattle.coverage.specs.Coverage.{on_served_line}
use Rattle.laws.specs.Folds.{any}
use mathlib.Core.Bool.{false}
use lib.ListN.{length}
use mathlib.Core.Path.{◌≡◌}
use Rattle.coverage.proofs.Serving.line_served.Given as goal

abbrev pub invariant-loop-i : goal.invariant-loop-i
invariant-loop-i l = (l.i ≤ length l.self.targets.now) × (false ≡ any (on_served_line l.self.targets.now l.self.lines.now l.id l.line) l.i)
