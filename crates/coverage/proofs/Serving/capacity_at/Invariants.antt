-- coverage::Serving::capacity_at meets its contract.
use Prim.Native.Nat.{◌≤◌}
use Rattle.coverage.specs.Coverage.{capacity_by}
use lib.ListN.{length}
use mathlib.Core.Path.{◌≡◌}
use Rattle.coverage.proofs.Serving.capacity_at.Given as goal

abbrev pub invariant-loop-line : goal.invariant-loop-line
invariant-loop-line l = (l.line-index ≤ length l.self.line_ids.now) × (l.a ≡ capacity_by l.self.targets.now l.self.lines.now l.self.rooms.now (length l.self.targets.now) l.self.line_ids.now l.line-index l.id)
