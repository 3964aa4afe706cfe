-- matcher::too_large meets its contract.
use lib.Dec.{eqb}
use mathlib.Core.Path.{◌≡◌}
use mathlib.Core.Bool.{not}
use Rattle.laws.specs.Folds.{any}
use Rattle.matcher.specs.Promise.{too_large}
use Rattle.matcher.proofs.too_large.Given as goal

abbrev pub invariant-loop-cell : goal.invariant-loop-cell
invariant-loop-cell l = not (eqb l.over 0) ≡ any (too_large l.cells) l.cell-index
