-- why::car_record meets its contract.
use Prim.Native.Nat.{◌≤◌}
use Rattle.laws.specs.Folds.{lookup}
use Rattle.layout.specs.Records.{sheet_of}
use lib.Dec.{eqb}
use mathlib.Core.Path.{◌≡◌}
use Rattle.why.proofs.car_record.Given as goal

abbrev pub invariant-loop-i : goal.invariant-loop-i
invariant-loop-i l =
    (l.i ≤ l.c.cars) × (l.found ≡ lookup (λ k. eqb ((sheet_of l.s l.c).car k).id l.id) (λ k. k) l.c.cars l.i)
