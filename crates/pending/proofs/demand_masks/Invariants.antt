-- pending::demand_masks meets its contract.
use Prim.Native.Nat.{ℕ, ◌≤◌, ◌-◌}
use mathlib.Core.Bool.{Bool, ◌&&◌}
use mathlib.Core.Path.{◌≡◌}
use lib.Dec.{eqb, ltb}
use Rattle.components.specs.Sheet.{Sheet}
use Rattle.laws.specs.Folds.{any}
use Rattle.layout.specs.Records.{sheet_of}
use Rattle.manifest.specs.World.{stop_id}
use Rattle.pending.specs.Masks.{stop_mask}
use Rattle.pending.proofs.demand_masks.Given as goal

-- demand record d names stop j: its call has no rider, or someone rides to it
abbrev pub calls : Sheet → ℕ → ℕ → Bool
calls s j d = eqb (s.demand d).stop (stop_id s j) && (s.demand d).call

abbrev pub rides : Sheet → ℕ → ℕ → Bool
rides s j d = eqb (s.demand d).stop (stop_id s j) && ltb 0 (s.demand d).riding

abbrev pub invariant-loop-d : goal.invariant-loop-d
invariant-loop-d l =
    (l.d ≤ l.c.demands)
    × ((l.m.calls ≡ stop_mask (sheet_of l.s l.c) (λ j. any (calls (sheet_of l.s l.c) j) l.d)) × (l.m.ridden ≡ stop_mask (sheet_of l.s l.c) (λ j. any (rides (sheet_of l.s l.c) j) l.d)))
