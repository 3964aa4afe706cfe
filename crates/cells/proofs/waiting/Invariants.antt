-- cells::waiting meets its contract.
use Prim.Native.Nat.{◌≤◌, ◌-◌}
use Rattle.layout.specs.Records.{sheet_of}
use Rattle.rows.specs.Gathered.{Met}
use Rattle.cells.proofs.waiting.Given as goal

abbrev pub invariant-loop-w : goal.invariant-loop-w
invariant-loop-w l = (l.w ≤ l.fn.c.waits) × Met (sheet_of l.s l.fn.c) l.ids l.xs l.calls l.w l.someone l.initial.sums l.sums
