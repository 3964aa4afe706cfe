-- pending::waited_stops meets its contract.
use Prim.Native.Nat.{◌≤◌, ◌-◌}
use mathlib.Core.Path.{◌≡◌}
use Rattle.laws.specs.Folds.{any}
use Rattle.layout.specs.Records.{sheet_of}
use Rattle.manifest.specs.Manifest.{waits_at}
use Rattle.pending.specs.Masks.{stop_mask}
use Rattle.pending.proofs.waited_stops.Given as goal

abbrev pub invariant-loop-w : goal.invariant-loop-w
invariant-loop-w l = (l.w ≤ l.c.waits) × (l.m ≡ stop_mask (sheet_of l.s l.c) (λ j. any (waits_at (sheet_of l.s l.c) j) l.w))
