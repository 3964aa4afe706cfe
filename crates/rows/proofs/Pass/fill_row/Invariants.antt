-- rows::Pass::fill_row meets its contract.
use Prim.Native.Nat.{◌≤◌, ◌+◌, ◌-◌}
use Rattle.laws.specs.Tables.{tab}
use Rattle.laws.specs.Folds.{count}
use Rattle.rows.specs.Gathered.{waiters_at}
use Rattle.rows.specs.RowLaws.{row_cell, row_held}
use lib.ListN.{length, drop}
use mathlib.Core.List.{◌++◌}
use mathlib.Core.Path.{◌≡◌}
use Rattle.rows.proofs.Pass.fill_row.Given as goal

abbrev pub invariant-loop-k : goal.invariant-loop-k
invariant-loop-k l =
    (l.k ≤ l.self.columns.now.count) × (length l.out ≡ length l.initial.out) × (l.out ≡ tab (row_cell l.row l.dests.along.now l.dests.across.now (waiters_at l.self.someone l.self.known.masks.calls l.self.sums.now) l.self.known.stops.points.now l.self.known.stops.count l.self.columns.now) l.k ++ drop l.k l.initial.out)
    × (l.held ≡ count (row_held l.row l.dests.along.now l.dests.across.now (waiters_at l.self.someone l.self.known.masks.calls l.self.sums.now) l.self.known.stops.points.now l.self.known.stops.count l.self.columns.now) l.k)
