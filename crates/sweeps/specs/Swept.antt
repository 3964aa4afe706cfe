-- The code of a car's sweep after the pass, from what the pass holds. Assumes nothing.
use Rattle.std.specs.Prelude.{ℕ, ◌+◌, ◌≤◌, ◌<◌, ◌≡◌, refl, List, get_or, Float}
use Rattle.std.proofs.Common.{ap, ◌∙◌}
use Rattle.std.specs.Float.{nan}
use Rattle.laws.specs.Tables.{tab, get_or-tab₀}
use Rattle.components.specs.declared.Car.{Car}
use Rattle.components.specs.declared.Strategy.{Strategy}
use Rattle.components.specs.Sheet.{Sheet}
use Rattle.manifest.specs.World.{stop_id, stop_at}
use Rattle.manifest.specs.Stops.{HoldsStops}
use Rattle.sweep.specs.declared.Sweep.{Sweep}
use Rattle.sweep.specs.Sweeps.{sweep_code}
use Rattle.assignment.specs.Cells.{sweep_after}
use Rattle.pending.specs.declared.StopMasks.{StopMasks}
use Rattle.pending.specs.Masks.{masks_of, demand_is, pending_are}
use Rattle.ranking.specs.Ranking.{sweep_by}
use Rattle.ranking.specs.RankingLaws.{sweep_is}
use Rattle.rows.specs.HeldLaws.{holds_demand, some_pending}

-- "for each car record 2 × sweep + mode"
abbrev pub code_after : Sheet → ℕ → ℕ
code_after s i = sweep_code (sweep_after s i)

-- the stops' points and their masks
pub record Positioned (s : Sheet) (xs : List Float) (masks : StopMasks) : Type 0 where
  pub few : s.stops ≤ 64
  pub at : (j : ℕ) → j < s.stops → get_or xs j nan ≡ (stop_at s j).along
  pub side : (j : ℕ) → j < s.stops → get_or xs (64 + j) nan ≡ (stop_at s j).across
  pub masks_are : masks ≡ masks_of s

module _ (s : Sheet) (xs : List Float) (masks : StopMasks) (h : Positioned s xs masks) where
  -- a sweep looks at no id: the sheet's own stand for them
  abbrev ids : List ℕ
  ids = tab (stop_id s) s.stops

  held : HoldsStops s ids xs s.stops
  held = record { counted = refl; id_of = λ j l. get_or-tab₀ (stop_id s) s.stops j 0 l; at = h.at; side = h.side }

  -- what the stages before the code give is the code of car i's sweep
  pub code_is : (i : ℕ) {strategy : Strategy} {car : Car} {sweep : Sweep} {code : ℕ} → strategy ≡ s.policy.strategy → car ≡ s.car i
      → sweep ≡ sweep_by strategy car masks.pending masks.demand xs s.stops → code ≡ sweep_code sweep → code ≡ code_after s i
  code_is i {strategy} {car} {sweep} {code} et ec es ek =
      ek
      ∙ ap sweep_code
      (es ∙ rw (et, ec) (sweep_is s ids xs masks.pending masks.demand held
      (holds_demand s masks.demand h.few (demand_is s h.masks_are))
      (some_pending s masks.pending h.few (pending_are s h.masks_are)) i))
