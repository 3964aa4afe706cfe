-- weight_store::Columns::first_disagreeing meets its contract.
use Prim.Native.Nat.{◌≤◌, ◌-◌}
use Rattle.laws.specs.Folds.{any}
use Rattle.weight_store.specs.Keys.{held_entry}
use Rattle.weight_store.specs.Refusals.{disagrees_earlier}
use lib.ListN.{length}
use mathlib.Core.Bool.{false}
use mathlib.Core.Path.{◌≡◌}
use Rattle.weight_store.proofs.Columns.first_disagreeing.Given as goal

abbrev pub invariant-loop-j : goal.invariant-loop-j
invariant-loop-j l = (l.j ≤ length l.self.keys.now) × (false ≡ any (disagrees_earlier (held_entry l.self.keys.now l.self.values.now)) l.j)
