-- When what is held of a stop's waiters is the sheet's (proofs/WaitersLaws: it is, where lists hold the sheet); and the least weight of each class
-- answers rider_can_board for all of them. Assumes nothing.
use Rattle.std.specs.Prelude.{None, Option, Some}
use Rattle.components.specs.declared.Point.{Point}
use Rattle.std.specs.Prelude.{ℕ, ◌<◌, ◌≡◌, Bool, not, ◌&&◌, ◌||◌, Float}
use Rattle.std.proofs.Math.Path.{refl, ap}
use Rattle.std.proofs.Common.{sym, ap₂, ◌∙◌}
use Rattle.std.proofs.Math.Bool.{true, false, cond, and-false}
use Rattle.std.specs.Float.Ieee.{lt}
use Rattle.laws.specs.Bools.{never}
use Rattle.laws.specs.Folds.{any, any_cong, any-or, any-and}
use Rattle.fp.specs.Num.{finite}
use Rattle.fp.specs.Order.{real, lt_asym}
use Rattle.fp.specs.Least.{least, least_any}
use Rattle.components.specs.declared.Car.{Car}
use Rattle.components.specs.Cars.{remaining}
use Rattle.components.specs.Sheet.{Sheet}
use Rattle.manifest.specs.declared.Waiters.{Waiters}
use Rattle.manifest.specs.World.{stop_at, stop_position}
use Rattle.manifest.specs.Manifest.{waits_at, someone_waits, riderless_call}
use Rattle.manifest.specs.Waiters.{goes_up, goes_down, stays_level}
use Rattle.dispatch.specs.Waits.{wait_ticks_sum, wait_ticks_squared_sum}
use Rattle.dispatch.specs.Useful.{rider_can_board, lamps_allow, servable}
use Rattle.dispatch.specs.Pairs.{can_board, servable_by}

-- ---- the classes of waiters, over a sheet

module _ (s : Sheet) (j : ℕ) where
  abbrev pub place_of : ℕ → Option Point
  place_of w = stop_position s (s.waiting w).destination

  abbrev pub weight_of : ℕ → Float
  weight_of w = (s.waiting w).weight

  -- w waits at stop j and goes up, goes down, does neither
  abbrev pub waits_up : ℕ → Bool
  waits_up w = waits_at s j w && goes_up (stop_at s j).along (place_of w)

  abbrev pub waits_down : ℕ → Bool
  waits_down w = waits_at s j w && goes_down (stop_at s j).along (place_of w)

  abbrev pub waits_level : ℕ → Bool
  waits_level w = waits_at s j w && stays_level (stop_at s j).along (place_of w)

  -- what is held of stop j's waiters is the sheet's
  pub record HoldsWaiters (v : Waiters) : Type 0 where
    pub someone : v.someone ≡ someone_waits s j
    pub call : v.call ≡ riderless_call s j
    pub waitsum : v.waitsum ≡ wait_ticks_sum s j
    pub squares : v.squares ≡ wait_ticks_squared_sum s j
    pub up : v.up ≡ least waits_up weight_of s.waits
    pub down : v.down ≡ least waits_down weight_of s.waits
    pub level : v.level ≡ least waits_level weight_of s.waits

-- ---- who can board

-- no weight is a NaN, and what the car still takes is finite: acceptance gives both
pub record Weighed (s : Sheet) (i : ℕ) : Type 0 where
  pub weights : (w : ℕ) → w < s.waits → real (s.waiting w).weight ≡ true
  pub room : finite (remaining (s.car i)) ≡ true

-- one rider: u goes up, d goes down, never both; a waits here, f fits
one_rider : (a f u d up down : Bool) → (u ≡ true → d ≡ false)
    → (((a && not (u || d)) && f) || ((up && ((a && u) && f)) || (down && ((a && d) && f)))) ≡
    (a && (f && (not (u && not up) && not (d && not down))))
one_rider false f u d up down h = simp and-false
one_rider true false u d up down h = simp and-false
one_rider true true true true up down h = never (sym (h refl))
one_rider true true true false true down h = refl
one_rider true true true false false down h = simp and-false
one_rider true true false true up true h = simp and-false
one_rider true true false true up false h = simp and-false
one_rider true true false false up down h = refl

-- the lamps by the two classes
lamps : (c : Car) (p : Float) (d : Option Point) → lamps_allow c p d ≡ (not (goes_up p d && not c.up) && not (goes_down p d && not c.down))
lamps c p None = refl
lamps c p (Some d) = refl

not_both_ways : (p : Float) (d : Option Point) → goes_up p d ≡ true → goes_down p d ≡ false
not_both_ways p None h = refl
not_both_ways p (Some d) h = lt_asym p d.along h

module _ (s : Sheet) (i j : ℕ) (h : Weighed s i) where
  fits : ℕ → Bool
  fits w = not (lt (remaining (s.car i)) (weight_of s j w))

  one : (w : ℕ)
      → ((waits_level s j w && fits w) || (((s.car i).up && (waits_up s j w && fits w)) || ((s.car i).down && (waits_down s j w && fits w))))
      ≡ (waits_at s j w && rider_can_board (s.car i) (stop_at s j).along (weight_of s j w) (place_of s j w))
  unfolding rider_can_board fits
  one w =
      one_rider (waits_at s j w) (fits w) (goes_up (stop_at s j).along (place_of s j w)) (goes_down (stop_at s j).along (place_of s j w))
      (s.car i).up (s.car i).down
      (not_both_ways (stop_at s j).along (place_of s j w))
      ∙ ap (λ (b : Bool). waits_at s j w && (fits w && b)) (sym (lamps (s.car i) (stop_at s j).along (place_of s j w)))

  all : (any (λ w. waits_level s j w && fits w) s.waits
      || (((s.car i).up && any (λ w. waits_up s j w && fits w) s.waits) || ((s.car i).down && any (λ w. waits_down s j w && fits w) s.waits)))
      ≡ any (λ w. waits_at s j w && rider_can_board (s.car i) (stop_at s j).along (weight_of s j w) (place_of s j w)) s.waits
  all =
      ap₂ (λ (x y : Bool). any (λ w. waits_level s j w && fits w) s.waits || (x || y))
      (any-and (s.car i).up (λ w. waits_up s j w && fits w) s.waits) (any-and (s.car i).down (λ w. waits_down s j w && fits w) s.waits)
      ∙ ap (λ (x : Bool). any (λ w. waits_level s j w && fits w) s.waits || x)
      (any-or (λ w. (s.car i).up && (waits_up s j w && fits w)) (λ w. (s.car i).down && (waits_down s j w && fits w)) s.waits)
      ∙ any-or (λ w. waits_level s j w && fits w)
      (λ w. ((s.car i).up && (waits_up s j w && fits w)) || ((s.car i).down && (waits_down s j w && fits w))) s.waits
      ∙ any_cong
      (λ w. (waits_level s j w && fits w) || (((s.car i).up && (waits_up s j w && fits w)) || ((s.car i).down && (waits_down s j w && fits w))))
      (λ w. waits_at s j w && rider_can_board (s.car i) (stop_at s j).along (weight_of s j w) (place_of s j w)) s.waits
      (λ w l. one w)

  class : (p : ℕ → Bool) → not (lt (remaining (s.car i)) (least p (weight_of s j) s.waits)) ≡ any (λ w. p w && fits w) s.waits
  unfolding fits
  class p = least_any p (weight_of s j) (remaining (s.car i)) s.waits h.room (λ k l e. h.weights k l)

  -- servable by the least weights is servable rider by rider
  pub servable_is : (v : Waiters) → HoldsWaiters s j v → servable_by v (s.car i) ≡ servable s i j
  unfolding servable_by servable can_board
  servable_is v w =
      rw (w.someone, w.call, w.up, w.down, w.level, class (waits_level s j), class (waits_up s j), class (waits_down s j))
      (ap (λ (b : Bool). cond (someone_waits s j) b (riderless_call s j)) all)
