-- shown::taken meets its contract.
use Prim.Native.Nat.{◌≤◌}
use mathlib.Core.Path.{◌≡◌}
use lib.Dec.{eqb}
use Rattle.laws.specs.Folds.{any}
use Rattle.shown.specs.Fits.{column_of}
use Rattle.shown.proofs.taken.Given as goal

abbrev pub invariant-loop-column : goal.invariant-loop-column
invariant-loop-column l = (l.column-index ≤ l.n) × (l.found ≡ any (λ k. eqb (column_of l.columns k) l.j) l.column-index)
