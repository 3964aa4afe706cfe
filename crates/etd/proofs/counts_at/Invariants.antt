-- etd::counts_at meets its contract.
use Prim.Native.Nat.{◌≤◌, ◌-◌}
use mathlib.Core.Path.{◌≡◌}
use Rattle.etd.specs.Halts.{short_of, up_to}
use Rattle.etd.proofs.counts_at.Given as goal

abbrev pub invariant-loop-k : goal.invariant-loop-k
invariant-loop-k l =
    (l.k ≤ l.n) × (l.short ≤ l.k) × (l.reached ≤ l.k) × (l.short ≡ short_of l.places l.k l.x) × (l.reached ≡ up_to l.places l.k l.x)
