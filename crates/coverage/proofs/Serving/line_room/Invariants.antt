-- coverage::Serving::line_room meets its contract.
use Prim.Native.Nat.{◌≤◌}
use Rattle.coverage.specs.Coverage.{line_room}
use lib.ListN.{length}
use mathlib.Core.Path.{◌≡◌}
use Rattle.coverage.proofs.Serving.line_room.Given as goal

abbrev pub invariant-loop-i : goal.invariant-loop-i
invariant-loop-i l = (l.i ≤ length l.self.targets.now) × (l.b ≡ line_room l.self.targets.now l.self.lines.now l.self.rooms.now l.i l.id l.a l.line)
