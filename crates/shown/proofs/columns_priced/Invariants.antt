-- shown::columns_priced meets its contract.
use Prim.Native.Nat.{◌≤◌}
use mathlib.Core.Path.{◌≡◌}
use Rattle.shown.specs.Shown.{columns_priced}
use Rattle.shown.specs.Fits.{price_at, column_of}
use Rattle.shown.proofs.columns_priced.Given as goal

abbrev pub invariant-loop-j : goal.invariant-loop-j
invariant-loop-j l = (l.j ≤ l.w) × (l.ok ≡ columns_priced l.n l.j (column_of l.columns) (price_at l.v))
