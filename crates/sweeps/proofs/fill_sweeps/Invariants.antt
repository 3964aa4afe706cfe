-- sweeps::fill_sweeps meets its contract.
use Prim.Native.Nat.{◌≤◌, ◌-◌}
use Rattle.laws.specs.Tables.{tab}
use Rattle.layout.specs.Records.{sheet_of}
use Rattle.sweeps.specs.Swept.{code_after}
use lib.ListN.{length, drop}
use mathlib.Core.List.{◌++◌}
use mathlib.Core.Path.{◌≡◌}
use Rattle.sweeps.proofs.fill_sweeps.Given as goal

abbrev pub invariant-loop-i : goal.invariant-loop-i
invariant-loop-i l = (l.i ≤ l.n) × (length l.out ≡ length l.initial.out) × (l.out ≡ tab (code_after (sheet_of l.s l.c)) l.i ++ drop l.i l.initial.out)
