-- plain_matcher::put_columns meets its contract.
use mathlib.Core.Path.{◌≡◌}
use mathlib.Core.List.{◌++◌}
use Prim.Native.Nat.{◌≤◌}
use lib.ListN.{length, drop}
use Rattle.laws.specs.Tables.{tab}
use Rattle.plain_matcher.specs.Promise.{column_at}
use Rattle.plain_matcher.proofs.put_columns.Given as goal

abbrev pub invariant-loop-k : goal.invariant-loop-k
invariant-loop-k l = (l.k ≤ l.cars) × (length l.places ≡ length l.initial.places) × (l.places ≡ tab (column_at l.columns) l.k ++ drop l.k l.initial.places)
