-- What is held of a stop's waiters is the sheet's. Assumes nothing.
use Rattle.std.specs.Prelude.{ℕ, ◌<◌, ◌≡◌, Bool, ◌&&◌, List, get_or, Float}
use Rattle.std.proofs.Math.Path.{refl, ap}
use Rattle.std.proofs.Common.{◌∙◌}
use Rattle.std.proofs.Math.Bool.{true, false, cond}
use Rattle.std.specs.Float.{nan}
use Rattle.laws.specs.Folds.{fold, fold_cong, fold_map, fold_keep, fold_flag}
use Rattle.fp.specs.Num.{plus, times, lesser, natural}
use Rattle.fp.specs.Least.{least}
use Rattle.components.specs.Sheet.{Sheet}
use Rattle.manifest.specs.declared.Waiters.{Waiters}
use Rattle.manifest.specs.World.{stop_at}
use Rattle.manifest.specs.Manifest.{waits_at, someone_waits, riderless_call}
use Rattle.manifest.specs.Stops.{HoldsStops, position_is}
use Rattle.manifest.specs.Holds.{HoldsWaiting}
use Rattle.manifest.specs.Waiters.{goes_up, goes_down, stays_level, nobody, with_rider, meet, waiters_in}
use Rattle.dispatch.specs.Waits.{sum_at, wait_ticks_sum, wait_ticks_squared_sum}
use Rattle.dispatch.specs.WaitersLaws.{HoldsWaiters, place_of, weight_of, waits_up, waits_down, waits_level}

module _ (s : Sheet) (j : ℕ) where
  step : Waiters → ℕ → Waiters
  step v w = cond (waits_at s j w) (with_rider v (stop_at s j).along (place_of s j w) (weight_of s j w) (s.waiting w).wait) v

  waiters : Bool → Waiters
  waiters call = fold step (nobody call) s.waits

  -- ---- each part of it is a walk of its own

  module _ (call : Bool) where
    someone_is : (waiters call).someone ≡ someone_waits s j
    unfolding waiters step someone_waits with_rider
    someone_is =
        fold_map (λ (v : Waiters). v.someone) step (λ (b : Bool) (w : ℕ). cond (waits_at s j w) true b) (nobody call) s.waits
        (λ v w l. by v w (waits_at s j w))
        ∙ fold_flag (waits_at s j) s.waits
      where
        by : (v : Waiters) (w : ℕ) (c : Bool) → (cond c (with_rider v (stop_at s j).along (place_of s j w) (weight_of s j w) (s.waiting w).wait) v).someone ≡
            cond c true v.someone
        by v w true = refl
        by v w false = refl

    call_is : (waiters call).call ≡ call
    unfolding waiters step with_rider
    call_is =
        fold_map (λ (v : Waiters). v.call) step (λ (b : Bool) (w : ℕ). b) (nobody call) s.waits (λ v w l. by v w (waits_at s j w))
        ∙ fold_keep call s.waits
      where
        by : (v : Waiters) (w : ℕ) (c : Bool) → (cond c (with_rider v (stop_at s j).along (place_of s j w) (weight_of s j w) (s.waiting w).wait) v).call ≡ v.call
        by v w true = refl
        by v w false = refl

    waitsum_is : (waiters call).waitsum ≡ wait_ticks_sum s j
    unfolding waiters step with_rider wait_ticks_sum sum_at
    waitsum_is =
        fold_map (λ (v : Waiters). v.waitsum) step (λ (a : Float) (w : ℕ). cond (waits_at s j w) (plus a (natural (s.waiting w).wait)) a)
        (nobody call) s.waits
        (λ v w l. by v w (waits_at s j w))
      where
        by : (v : Waiters) (w : ℕ) (c : Bool) → (cond c (with_rider v (stop_at s j).along (place_of s j w) (weight_of s j w) (s.waiting w).wait) v).waitsum
            ≡ cond c (plus v.waitsum (natural (s.waiting w).wait)) v.waitsum
        by v w true = refl
        by v w false = refl

    squares_is : (waiters call).squares ≡ wait_ticks_squared_sum s j
    unfolding waiters step with_rider wait_ticks_squared_sum sum_at
    squares_is =
        fold_map (λ (v : Waiters). v.squares) step
        (λ (a : Float) (w : ℕ). cond (waits_at s j w) (plus a (times (natural (s.waiting w).wait) (natural (s.waiting w).wait))) a) (nobody call)
        s.waits
        (λ v w l. by v w (waits_at s j w))
      where
        by : (v : Waiters) (w : ℕ) (c : Bool) → (cond c (with_rider v (stop_at s j).along (place_of s j w) (weight_of s j w) (s.waiting w).wait) v).squares
            ≡ cond c (plus v.squares (times (natural (s.waiting w).wait) (natural (s.waiting w).wait))) v.squares
        by v w true = refl
        by v w false = refl

    up_is : (waiters call).up ≡ least (waits_up s j) (weight_of s j) s.waits
    unfolding waiters step with_rider least
    up_is =
        fold_map (λ (v : Waiters). v.up) step (λ (a : Float) (w : ℕ). cond (waits_up s j w) (lesser a (weight_of s j w)) a) (nobody call) s.waits
        (λ v w l. by v w (waits_at s j w))
      where
        by : (v : Waiters) (w : ℕ) (c : Bool) → (cond c (with_rider v (stop_at s j).along (place_of s j w) (weight_of s j w) (s.waiting w).wait) v).up
            ≡ cond (c && goes_up (stop_at s j).along (place_of s j w)) (lesser v.up (weight_of s j w)) v.up
        by v w true = refl
        by v w false = refl

    down_is : (waiters call).down ≡ least (waits_down s j) (weight_of s j) s.waits
    unfolding waiters step with_rider least
    down_is =
        fold_map (λ (v : Waiters). v.down) step (λ (a : Float) (w : ℕ). cond (waits_down s j w) (lesser a (weight_of s j w)) a) (nobody call) s.waits
        (λ v w l. by v w (waits_at s j w))
      where
        by : (v : Waiters) (w : ℕ) (c : Bool) → (cond c (with_rider v (stop_at s j).along (place_of s j w) (weight_of s j w) (s.waiting w).wait) v).down
            ≡ cond (c && goes_down (stop_at s j).along (place_of s j w)) (lesser v.down (weight_of s j w)) v.down
        by v w true = refl
        by v w false = refl

    level_is : (waiters call).level ≡ least (waits_level s j) (weight_of s j) s.waits
    unfolding waiters step with_rider least
    level_is =
        fold_map (λ (v : Waiters). v.level) step (λ (a : Float) (w : ℕ). cond (waits_level s j w) (lesser a (weight_of s j w)) a) (nobody call) s.waits
        (λ v w l. by v w (waits_at s j w))
      where
        by : (v : Waiters) (w : ℕ) (c : Bool) → (cond c (with_rider v (stop_at s j).along (place_of s j w) (weight_of s j w) (s.waiting w).wait) v).level
            ≡ cond (c && stays_level (stop_at s j).along (place_of s j w)) (lesser v.level (weight_of s j w)) v.level
        by v w true = refl
        by v w false = refl

    held : call ≡ riderless_call s j → HoldsWaiters s j (waiters call)
    held e =
        record {
          someone = someone_is;
          call = call_is ∙ e;
          waitsum = waitsum_is;
          squares = squares_is;
          up = up_is;
          down = down_is;
          level = level_is;
        }

-- ---- lists that hold the sheet give it

module _ (s : Sheet) (ids : List ℕ) (xs : List Float) (n : ℕ) (hs : HoldsStops s ids xs n)
    (wstop wdest : List ℕ) (wweight : List Float) (wwait : List ℕ) (nw : ℕ) (hw : HoldsWaiting s wstop wdest wweight wwait nw) where
  same_step : (j : ℕ) → j < n → (v : Waiters) (w : ℕ) → w < nw
      → meet ids xs n (get_or ids j 0) (get_or xs j nan) v (get_or wstop w 0) (get_or wdest w 0) (get_or wweight w nan) (get_or wwait w 0) ≡ step s j v w
  unfolding meet step
  same_step j l v w lw =
      rw (
        hs.id_of j l,
        hs.at j l,
        hw.stop_of w lw,
        hw.bound_for_lem w lw,
        hw.weight_of_lem w lw,
        hw.ticks_of w lw,
        position_is s ids xs n hs
            (s.waiting w).destination,
      )

  pub waiters_held : (j : ℕ) (call : Bool) → j < n → call ≡ riderless_call s j
      → HoldsWaiters s j (waiters_in ids xs n j call wstop wdest wweight wwait nw)
  unfolding waiters_in waiters
  waiters_held j call l e =
      let same : waiters_in ids xs n j call wstop wdest wweight wwait nw ≡ waiters s j call =
      fold_cong
      (λ v w. meet ids xs n (get_or ids j 0) (get_or xs j nan) v (get_or wstop w 0) (get_or wdest w 0) (get_or wweight w nan) (get_or wwait w 0))
      (step s j) (nobody call) nw (same_step j l)
      ∙ ap (fold (step s j) (nobody call)) hw.counted in
      rw same (held s j call e)
