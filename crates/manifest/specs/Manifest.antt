-- What waits where: manifest.rs. Assumes nothing.
use Rattle.std.specs.Prelude.{ℕ, Bool, ◌&&◌, ◌||◌, eqb, ltb}
use Rattle.laws.specs.Folds.{any}
use Rattle.components.specs.Sheet.{Sheet}
use Rattle.manifest.specs.World.{stop_id, in_group}

module _ (s : Sheet) where
  -- rider w waits at stop j: waiting_riders_at, in record order
  abbrev pub waits_at : ℕ → ℕ → Bool
  waits_at j w = eqb (s.waiting w).stop (stop_id s j)

  unfoldable pub someone_waits : ℕ → Bool
  someone_waits j = any (waits_at j) s.waits

  -- "1 if a hall call there has no pending rider"
  unfoldable pub riderless_call : ℕ → Bool
  riderless_call j = any (λ d. eqb (s.demand d).stop (stop_id s j) && (s.demand d).call) s.demands

  -- "a riding count above 0"
  unfoldable pub ridden_to : ℕ → Bool
  ridden_to j = any (λ d. eqb (s.demand d).stop (stop_id s j) && ltb 0 (s.demand d).riding) s.demands

  -- has_demand: "a stop has demand with a waiting rider, a riding count above 0, or the rider-less call bit"
  unfoldable pub has_demand : ℕ → Bool
  has_demand j = someone_waits j || (ridden_to j || riderless_call j)

  -- "demand stops of the group"
  unfoldable pub demand_stop : ℕ → Bool
  demand_stop j = in_group s j && has_demand j
