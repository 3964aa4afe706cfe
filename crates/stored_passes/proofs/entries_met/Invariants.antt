-- stored_passes::entries_met meets its contract.
use Prim.Native.Nat.{ℕ, ◌+◌, ◌≤◌}
use mathlib.Core.List.{List}
use Rattle.stored_passes.specs.Cases.{differing}
use Rattle.stored_passes.specs.Tallies.{Widened, tallied_of}
use mathlib.Core.Path.{◌≡◌}
use Rattle.stored_passes.proofs.entries_met.Given as goal

abbrev pub invariant-loop-k : goal.invariant-loop-k
invariant-loop-k g l =
    ((xs : List ℕ) → Widened g.T.Into.converts l.ours xs
    → (l.d ≡ tallied_of l.s l.at l.width l.entry xs l.initial.d l.k)
    × (l.d.differ ≡ l.initial.d.differ + differing l.s l.at l.width xs l.k))
    × (l.d.differ ≤ l.initial.d.differ + l.k)
