-- fields::fill meets its contract.
use Prim.Native.Nat.{ℕ, ◌≤◌, ◌<◌, ◌+◌, ◌*◌}
use Rattle.laws.specs.Tables.{tab}
use lib.ListN.{length, drop}
use mathlib.Core.List.{◌++◌}
use mathlib.Core.Path.{◌≡◌}
use Rattle.fields.proofs.fill.Given as goal

abbrev pub invariant-loop-i : goal.invariant-loop-i
invariant-loop-i g l =
    (l.i ≤ l.n) × (length l.out ≡ length l.initial.out)
    × ((f : ℕ → g.row.T.Denot) → ((k : ℕ) (x : g.row.T.Denot) → k < l.n → goal.F-post g l.read (l.base + l.len * k) x → x ≡ f k) → l.out ≡ tab f l.i ++ drop l.i l.initial.out)
