-- What SCAN computes from lists that hold a sheet is the sheet's. Assumes nothing.
use Rattle.std.specs.Prelude.{ℕ, ◌≡◌, Bool, ◌&&◌, List, get_or, Float}
use Rattle.std.proofs.Math.Path.{ap, ap₂}
use Rattle.std.proofs.Common.{◌∙◌}
use Rattle.std.specs.Float.{nan}
use Rattle.laws.specs.Folds.{any, any_cong}
use Rattle.mask.specs.Mask.{has}
use Rattle.components.specs.Sheet.{Sheet}
use Rattle.manifest.specs.World.{stop_at}
use Rattle.manifest.specs.Manifest.{demand_stop}
use Rattle.manifest.specs.Stops.{HoldsStops, HoldsDemand}
use Rattle.sweep.specs.Sweeps.{strictly_ahead, prepared, sweep_of}
use Rattle.scan.specs.Scan.{demand_ahead, prepared_by, strict_demand_ahead, prepared_sweep}

module _ (s : Sheet) (ids : List ℕ) (xs : List Float) (n demand : ℕ) (h : HoldsStops s ids xs n) (d : HoldsDemand s demand n) (i : ℕ) where
  pub ahead_is : demand_ahead (s.car i).direction (s.car i).position.along demand xs n ≡ strict_demand_ahead s i
  unfolding demand_ahead strict_demand_ahead
  ahead_is =
      any_cong
      (λ j. has demand j && strictly_ahead (s.car i).direction (s.car i).position.along (get_or xs j nan))
      (λ j. demand_stop s j && strictly_ahead (s.car i).direction (s.car i).position.along (stop_at s j).along)
      n
      (λ j l. ap₂ (λ (b : Bool) (p : Float). b && strictly_ahead (s.car i).direction (s.car i).position.along p) (d.is_demand j l) (h.at j l))
      ∙ ap (any (λ j. demand_stop s j && strictly_ahead (s.car i).direction (s.car i).position.along (stop_at s j).along)) h.counted

  pub prepared_is : prepared_by (sweep_of (s.car i)) (s.car i).position.along demand xs n ≡ prepared_sweep s i
  unfolding prepared_by prepared_sweep
  prepared_is = ap (prepared (sweep_of (s.car i))) ahead_is
