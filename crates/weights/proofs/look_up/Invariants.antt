-- weights::look_up meets its contract.
use Prim.Native.Nat.{◌≤◌}
use Rattle.fp.specs.Num.{zero}
use Rattle.laws.specs.Folds.{any}
use Rattle.laws.specs.Tables.{tab}
use Rattle.weight_store.specs.Keys.{held_entry}
use Rattle.weights.specs.LookUp.{slot_weight, missing}
use lib.ListN.{length, drop, replicate}
use mathlib.Core.Bool.{false}
use mathlib.Core.List.{◌++◌}
use mathlib.Core.Path.{◌≡◌}
use Rattle.weights.proofs.look_up.Given as goal

abbrev pub invariant-loop-slot : goal.invariant-loop-slot
invariant-loop-slot l =
    (l.slot ≤ 6)
    × (length l.six ≡ 6)
    × (false ≡ any (missing (length l.records.keys.now) (held_entry l.records.keys.now l.records.values.now) l.day) l.slot)
    × (l.six ≡ tab (slot_weight (length l.records.keys.now) (held_entry l.records.keys.now l.records.values.now) l.day) l.slot ++ drop l.slot (replicate 6 zero))
