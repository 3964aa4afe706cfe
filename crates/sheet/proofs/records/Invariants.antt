-- sheet::records meets its contract.
use Prim.Native.Nat.{◌-◌}
use Rattle.layout.specs.Offsets.{none}
use Rattle.layout.specs.Verdict.{records_verdict}
use Rattle.sheet.specs.Kept.{Before}
use mathlib.Core.Path.{◌≡◌}
use Rattle.sheet.proofs.records.Given as goal

abbrev pub invariant-loop-i : goal.invariant-loop-i
invariant-loop-i l =
    Before l.s l.c l.at l.last l.tables.stops l.tables.cars l.tables.demands l.tables.closures × (records_verdict l.s l.count (none l.across) ≡ records_verdict l.s (l.count - l.i) l.c)
