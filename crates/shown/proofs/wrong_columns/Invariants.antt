-- shown::wrong_columns meets its contract.
use Prim.Native.Nat.{◌≤◌}
use mathlib.Core.Path.{◌≡◌}
use mathlib.Core.Bool.{◌||◌}
use Rattle.laws.specs.Folds.{any}
use Rattle.shown.specs.Refusals.{outside, repeats}
use Rattle.shown.proofs.wrong_columns.Given as goal

abbrev pub invariant-loop-i : goal.invariant-loop-i
invariant-loop-i l = (l.i ≤ l.n) × (l.wrong ≡ any (λ k. outside l.w l.columns k || repeats l.columns k) l.i)
