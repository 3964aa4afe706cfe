-- shown::row_within meets its contract.
use Prim.Native.Nat.{◌≤◌}
use mathlib.Core.Path.{◌≡◌}
use Rattle.laws.specs.Folds.{every}
use Rattle.prices.specs.Price.{within}
use Rattle.assignment_problem.specs.Choice.{cell_at}
use Rattle.shown.specs.Fits.{price_at}
use Rattle.shown.proofs.row_within.Given as goal

abbrev pub invariant-loop-j : goal.invariant-loop-j
invariant-loop-j l = (l.j ≤ l.w) × (l.ok ≡ every (λ k. within (price_at l.u l.i) (price_at l.v k) (cell_at l.cells l.w l.i k)) l.j)
