-- replay_ranks::count_differ meets its contract.
use Prim.Native.Nat.{◌≤◌}
use mathlib.Core.Path.{◌≡◌}
use Rattle.laws.specs.Folds.{count}
use Rattle.layout.specs.Records.{sheet_of}
use Rattle.replay_ranks.specs.Ranks.{differs, pair_at}
use Rattle.replay_ranks.proofs.count_differ.Given as goal

abbrev pub invariant-loop-k : goal.invariant-loop-k
invariant-loop-k g l = (l.k ≤ l.case.pairs) × (l.d ≡ count (λ i. differs (sheet_of l.b l.c) (pair_at l.s l.case i)) l.k)
