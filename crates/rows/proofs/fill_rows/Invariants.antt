-- rows::fill_rows meets its contract.
use Prim.Native.Nat.{◌≤◌, ◌-◌, ◌%◌}
use Rattle.cars.specs.Cars.{HoldsFour}
use Rattle.layout.specs.Records.{sheet_of}
use Rattle.rows.specs.MatrixLaws.{Filling}
use lib.ListN.{length}
use mathlib.Core.Logic.{◌≢◌}
use mathlib.Core.Path.{◌≡◌}
use Rattle.rows.proofs.fill_rows.Given as goal

abbrev pub invariant-loop-r : goal.invariant-loop-r
invariant-loop-r l =
    (l.r ≤ l.idle.count) × Filling (sheet_of l.known.sheet.now l.known.counts) l.known.limit l.columns l.r l.at l.initial.matrix l.ranked l.held l.matrix × (length l.cars ≡ 4)
    × (l.r % 4 ≢ 0 → HoldsFour (sheet_of l.known.sheet.now l.known.counts) l.idle l.r l.cars)
