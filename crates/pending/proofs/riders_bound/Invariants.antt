-- pending::riders_bound meets its contract.
use Prim.Native.Nat.{ℕ, ◌≤◌, ◌-◌}
use mathlib.Core.Bool.{Bool, ◌&&◌}
use mathlib.Core.Path.{◌≡◌}
use lib.Dec.{eqb}
use Rattle.assignment.specs.Pending.{idle}
use Rattle.components.specs.Sheet.{Sheet}
use Rattle.laws.specs.Folds.{any}
use Rattle.layout.specs.Records.{sheet_of}
use Rattle.manifest.specs.World.{stop_id}
use Rattle.pending.specs.Masks.{stop_mask}
use Rattle.pending.proofs.riders_bound.Given as goal

-- rider a of an idle car is bound for stop j
abbrev pub bound : Sheet → ℕ → ℕ → Bool
bound s j a = eqb (s.aboard a).destination (stop_id s j) && any (λ i. idle s i && eqb (s.car i).id (s.aboard a).car) s.cars

abbrev pub invariant-loop-a : goal.invariant-loop-a
invariant-loop-a l = (l.a ≤ l.c.aboards) × (l.m ≡ stop_mask (sheet_of l.s l.c) (λ j. any (bound (sheet_of l.s l.c) j) l.a))
