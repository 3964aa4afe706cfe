-- weight_store::Columns::disagrees_earlier meets its contract.
use Prim.Native.Nat.{ℕ, ◌≤◌, ◌-◌}
use Rattle.laws.specs.Folds.{any}
use Rattle.weight_store.specs.Keys.{held_entry}
use Rattle.weight_store.specs.Refusals.{disagree}
use mathlib.Core.Bool.{Bool, false}
use mathlib.Core.List.{List}
use mathlib.Core.Path.{◌≡◌}
use Rattle.weight_store.proofs.Columns.disagrees_earlier.Given as goal

-- record i agrees with j but in value
abbrev pub here : List ℕ → List ℕ → ℕ → ℕ → Bool
here keys values j i = disagree (held_entry keys values i) (held_entry keys values j)

abbrev pub invariant-loop-i : goal.invariant-loop-i
invariant-loop-i l = (l.i ≤ l.j) × (false ≡ any (here l.self.keys.now l.self.values.now l.j) l.i)
