-- weights::first_taken meets its contract.
use Prim.Native.Nat.{ℕ, ◌≤◌}
use Rattle.weight_store.specs.Keys.{held_entry}
use Rattle.weights.specs.Columns.{least_key}
use Rattle.weights.proofs.Leads.{Best}
use lib.ListN.{length}
use mathlib.Core.List.{List}
use mathlib.Core.Path.{◌≡◌}
use Rattle.weights.proofs.first_taken.Given as goal

abbrev pub invariant-loop-i : goal.invariant-loop-i
invariant-loop-i l =
    (l.i ≤ length l.keys) × (l.least ≡ least_key (length l.keys) l.keys l.slot l.best) × ((values : List ℕ) → Best (length l.keys) (held_entry l.keys values) l.day l.slot l.i l.best)
