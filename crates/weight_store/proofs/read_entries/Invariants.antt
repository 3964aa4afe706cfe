-- weight_store::read_entries meets its contract.
use Prim.Native.Nat.{◌≤◌, ◌-◌}
use Rattle.laws.specs.Folds.{any}
use Rattle.laws.specs.Tables.{tab}
use Rattle.weight_store.specs.Entries.{entry_count}
use Rattle.weight_store.specs.Keys.{key_of, value_of}
use Rattle.weight_store.specs.Refusals.{entry_refused}
use lib.ListN.{length, drop}
use mathlib.Core.Bool.{false}
use mathlib.Core.List.{◌++◌}
use mathlib.Core.Path.{◌≡◌}
use Rattle.weight_store.proofs.read_entries.Given as goal

abbrev pub invariant-loop-key : goal.invariant-loop-key
invariant-loop-key l =
    (l.i ≤ 256)
    × (l.i ≤ entry_count l.s)
    × (false ≡ any (entry_refused l.s) l.i)
    × (length l.keys ≡ length l.initial.keys)
    × (length l.values ≡ length l.initial.values)
    × (l.keys ≡ tab (key_of l.s) l.i ++ drop l.i l.initial.keys)
    × (l.values ≡ tab (value_of l.s) l.i ++ drop l.i l.initial.values)

abbrev pub decreases-loop-key : goal.decreases-loop-key
decreases-loop-key l = entry_count l.s - l.i
