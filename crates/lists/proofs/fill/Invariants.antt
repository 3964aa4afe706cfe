-- lists::fill meets its contract.
use Prim.Native.Nat.{ℕ, ◌≤◌, ◌<◌}
use Rattle.laws.specs.Tables.{tab}
use Rattle.lists.specs.Lists.{number_in}
use lib.ListN.{length, drop}
use mathlib.Core.List.{◌++◌}
use mathlib.Core.Path.{◌≡◌}
use Rattle.lists.proofs.fill.Given as goal

abbrev pub invariant-loop-k : goal.invariant-loop-k
invariant-loop-k g l =
    (l.k ≤ length l.initial.out) × (length l.out ≡ length l.initial.out)
    × ((f : ℕ → g.row.T.Denot) → ((k : ℕ) (x : g.row.T.Denot) → k < length l.initial.out → goal.F-post g l.read (number_in l.s l.at l.width k) x → x ≡ f k) → l.out ≡ tab f l.k ++ drop l.k l.initial.out)
