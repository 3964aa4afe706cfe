-- pair_is_useful from what is held of a car's riders is the sheet's. Assumes nothing.
use Rattle.std.specs.Prelude.{None, Option, Some}
use Rattle.components.specs.declared.Point.{Point}
use Rattle.std.specs.Prelude.{ℕ, ◌<◌, ◌≡◌, Bool, ◌&&◌, ◌||◌, Float}
use Rattle.std.proofs.Common.{◌∙◌}
use Rattle.std.proofs.Math.Path.{refl, ap₂}
use Rattle.std.proofs.Math.Bool.{true, false, not}
use mathlib.Core.List.{List}
use Rattle.std.proofs.Math.ListN.{get_or}
use Rattle.std.specs.Float.Ieee.{nan}
use Rattle.laws.specs.Folds.{any, any_cong}
use Rattle.laws.specs.Collected.{any_collected}
use Rattle.mask.specs.Mask.{has}
use Rattle.components.specs.Sheet.{Sheet}
use Rattle.manifest.specs.declared.Waiters.{Waiters}
use Rattle.manifest.specs.World.{stop_at, goal, rides}
use Rattle.riders.specs.declared.Riders.{Riders}
use Rattle.dispatch.specs.Useful.{on_path, on_path_to, on_aboard_path, obstacle, pair_is_useful}
use Rattle.dispatch.specs.Pairs.{on_path_in, path_allows, useful_by, obstacle_by}
use Rattle.dispatch.specs.WaitersLaws.{HoldsWaiters, Weighed, servable_is}
use Rattle.dispatch.specs.RidersLaws.{is_at, stands_at, bound_for, rides_to, HoldsRiders}

-- ---- pair_is_useful

module _ (s : Sheet) (i j : ℕ) (weighed : Weighed s i) (r : Riders) (dests sides : List Float) (hr : HoldsRiders s i r dests sides) (v : Waiters)
    (hv : HoldsWaiters s j v)
  where
    abbrev passes : Float → Bool
    passes d = on_path (s.car i).position.along (stop_at s j).along d

    on_path_is : on_path_in (s.car i).position.along (stop_at s j).along dests r.count
        ≡ any (λ a. rides s i a && on_path_to (s.car i).position.along (stop_at s j).along (bound_for s i a)) s.aboards
    unfolding on_path_in
    on_path_is =
        ap₂ (λ (l : List Float) (m : ℕ). any (λ k. passes (get_or l k nan)) m) hr.held hr.counted
        ∙ any_collected (rides_to s i) (λ a. (stands_at (bound_for s i a)).along) passes s.aboards hr.rest nan
        ∙ any_cong (λ a. rides_to s i a && passes (stands_at (bound_for s i a)).along)
        (λ a. rides s i a && on_path_to (s.car i).position.along (stop_at s j).along (bound_for s i a)) s.aboards
        (λ a l. by (rides s i a) (bound_for s i a))
      where
        by : (b : Bool) (d : Option Point)
            → ((b && is_at d) && passes (stands_at d).along) ≡ (b && on_path_to (s.car i).position.along (stop_at s j).along d)
        by false d = refl
        by true None = refl
        by true (Some x) = refl

    path_is : (path : Bool) → path_allows (s.car i) r dests (stop_at s j).along path ≡ (not path || on_aboard_path s i j)
    unfolding path_allows on_aboard_path
    path_is path = rw (hr.routed, on_path_is)

    pub useful_is : (path : Bool) → j < s.stops
        → useful_by (s.car i) (goal s i) r dests v (has r.exits j) (stop_at s j).along path ≡ pair_is_useful s i j path
    unfolding useful_by pair_is_useful
    useful_is path l = rw (hr.exits j l, servable_is s i j weighed v hv, path_is path)

    pub obstacle_is : (path : Bool) → j < s.stops
        → obstacle_by (s.car i) (goal s i) r dests v (has r.exits j) (stop_at s j).along path ≡ obstacle s i j path
    unfolding obstacle_by obstacle
    obstacle_is path l = rw (hr.exits j l, servable_is s i j weighed v hv, path_is path)
