-- RSR's rank from what is held is the sheet's. Assumes nothing.
use Rattle.std.specs.Prelude.{ℕ, ◌<◌, ◌≡◌, List, Float}
use Rattle.std.proofs.Common.{arith}
use Rattle.std.proofs.Math.Bool.{true}
use Rattle.mask.specs.Mask.{has}
use Rattle.components.specs.Sheet.{Sheet}
use Rattle.manifest.specs.declared.Waiters.{Waiters}
use Rattle.manifest.specs.World.{stop_at, goal}
use Rattle.manifest.specs.Stops.{HoldsStops, point_is}
use Rattle.riders.specs.declared.Riders.{Riders}
use Rattle.dispatch.specs.WaitersLaws.{HoldsWaiters, Weighed}
use Rattle.dispatch.specs.RidersLaws.{HoldsRiders}
use Rattle.dispatch.proofs.RidersLaws.{useful_is}
use Rattle.rsr.specs.Rsr.{rsr_cost_of, rsr_cost, rsr_rank}
use Rattle.rsr.specs.Pairs.{rank_by}

module _ (s : Sheet) (ids : List ℕ) (xs : List Float) (n : ℕ) (hs : HoldsStops s ids xs n) (i j : ℕ)
    (r : Riders) (dests sides : List Float) (hr : HoldsRiders s i r dests sides) (v : Waiters) (hv : HoldsWaiters s j v) where
  cost_is : rsr_cost_of s.policy (s.car i) (goal s i) v.waitsum (has (s.car i).calls j) (stop_at s j) ≡ rsr_cost s i j
  cost_is = rw hv.waitsum

  -- the rank of stop j
  pub rank_is : Weighed s i → j < n → rank_by s.policy (s.car i) (goal s i) r dests v xs j ≡ rsr_rank s i j
  unfolding rank_by rsr_rank
  rank_is w l = rw (point_is s ids xs n hs j l, useful_is s i j w r dests sides hr v hv true (let e = hs.counted in omega arith), cost_is)
