-- ETD's rank from what is held is the sheet's. Assumes nothing.
use Rattle.std.specs.Prelude.{None, Option, Some}
use Rattle.std.specs.Prelude.{ℕ, zero, suc, ◌+◌, ◌≤◌, ◌<◌, ◌≡◌, Bool, ◌&&◌, ◌⊎◌, Float}
use Rattle.std.proofs.Common.{arith, sym, ◌∙◌, inl, inr}
use Rattle.std.proofs.Math.Path.{refl, ap, ap₂}
use Rattle.std.proofs.Math.Bool.{true, false, cond}
use mathlib.Core.List.{List, [], ◌∷◌, ◌++◌, append_assoc}
use Rattle.std.proofs.Math.ListN.{get_or}
use Rattle.std.proofs.lemmas.List.{get_or_at}
use Rattle.std.specs.Float.Ieee.{nan}
use Rattle.laws.specs.Bools.{bit, less?}
use Rattle.laws.specs.Folds.{fold, fold_cong, count, count_cong}
use Rattle.laws.specs.Collected.{collected, length_collected, fold_collected}
use Rattle.fp.specs.Num as Num
use Rattle.fp.specs.Num.{plus}
use Rattle.mask.specs.Mask.{has}
use Rattle.components.specs.declared.Point.{Point}
use Rattle.components.specs.Points.{point_of}
use Rattle.components.specs.Sheet.{Sheet}
use Rattle.manifest.specs.declared.Waiters.{Waiters}
use Rattle.manifest.specs.World.{stop_at, goal, rides}
use Rattle.manifest.specs.Manifest.{demand_stop}
use Rattle.manifest.specs.Stops.{HoldsStops, HoldsDemand, point_is}
use Rattle.riders.specs.declared.Riders.{Riders}
use Rattle.dispatch.specs.WaitersLaws.{HoldsWaiters, Weighed}
use Rattle.dispatch.specs.RidersLaws.{HoldsRiders, is_at, stands_at, bound_for, rides_to}
use Rattle.dispatch.proofs.RidersLaws.{useful_is}
use Rattle.etd.specs.Etd.{intervenes, extra_delay, add_delay, travel_time, intervening_stops, rider_delay, compute_cost, etd_terms, etd_rank}
use Rattle.etd.specs.Pairs.{intervening_in, halts_at, delay_in, cost_by, fair_cost_by, terms_by, rank_by}

-- an entry of what is collected, and a part g of it: one index more
module _ {A B : Type 0} (p : ℕ → Bool) (f : ℕ → A) (g : A → B) (n k : ℕ) (d : A) (e : B)
    (before : (r : List A) (q : List B) → k < count p n → get_or (collected p (λ a. g (f a)) n ++ q) k e ≡ g (get_or (collected p f n ++ r) k d))
  where
    last_one : (r : List A) (q : List B) → k < count p n ⊎ (count p n ≤ k) → k < count p n + 1
        → get_or (collected p (λ a. g (f a)) n ++ (g (f n) ∷ q)) k e ≡ g (get_or (collected p f n ++ (f n ∷ r)) k d)
    last_one r q (inl m) l = before (f n ∷ r) (g (f n) ∷ q) m
    last_one r q (inr m) l =
        let h : count p n ≡ k = omega arith in
        get_or_at (collected p (λ a. g (f a)) n) (g (f n)) q e k (length_collected p (λ a. g (f a)) n ∙ h)
        ∙ ap g (sym (get_or_at (collected p f n) (f n) r d k (length_collected p f n ∙ h)))

    one_more : (b : Bool) (r : List A) (q : List B) → k < count p n + bit b
        → get_or (cond b (collected p (λ a. g (f a)) n ++ (g (f n) ∷ [])) (collected p (λ a. g (f a)) n) ++ q) k e
        ≡ g (get_or (cond b (collected p f n ++ (f n ∷ [])) (collected p f n) ++ r) k d)
    one_more true r q l =
        ap (λ (z : List B). get_or z k e) (append_assoc (collected p (λ a. g (f a)) n) (g (f n) ∷ []) q)
        ∙ last_one r q (less? k (count p n)) l
        ∙ ap (λ (z : List A). g (get_or z k d)) (sym (append_assoc (collected p f n) (f n ∷ []) r))
    one_more false r q l = before r q (omega arith)

collected_map : {A B : Type 0} (p : ℕ → Bool) (f : ℕ → A) (g : A → B) (n k : ℕ) (d : A) (e : B) (r : List A) (q : List B) → k < count p n
    → get_or (collected p (λ a. g (f a)) n ++ q) k e ≡ g (get_or (collected p f n ++ r) k d)
unfolding collected count
collected_map p f g zero k d e r q l = absurd (omega arith)
collected_map p f g (suc n) k d e r q l = one_more p f g n k d e (λ r q m. collected_map p f g n k d e r q m) (p n) r q l

module _ (s : Sheet) (ids : List ℕ) (xs : List Float) (n demand : ℕ) (hs : HoldsStops s ids xs n) (hd : HoldsDemand s demand n) (i j : ℕ)
    (l : j < n) where
  halts_are : halts_at (s.car i).position.along demand xs n j ≡ intervening_stops s i j
  unfolding halts_at intervening_in intervening_stops
  halts_are =
      ap (λ (p : Float). intervening_in (s.car i).position.along p demand xs n) (hs.at j l)
      ∙ count_cong (λ k. has demand k && intervenes (s.car i).position.along (stop_at s j).along (get_or xs k nan))
      (λ k. demand_stop s k && intervenes (s.car i).position.along (stop_at s j).along (stop_at s k).along) n
      (λ k l. ap₂ (λ (b : Bool) (q : Float). b && intervenes (s.car i).position.along (stop_at s j).along q) (hd.is_demand k l) (hs.at k l))
      ∙ ap (count (λ k. demand_stop s k && intervenes (s.car i).position.along (stop_at s j).along (stop_at s k).along)) hs.counted

  module _ (r : Riders) (dests sides : List Float) (hr : HoldsRiders s i r dests sides) where
    -- the points that the riders are bound for, as one list
    points : List Point
    points = collected (rides_to s i) (λ b. stands_at (bound_for s i b)) s.aboards ++ []

    delayed : Float → Point → Float
    delayed a d = plus a (extra_delay (s.car i).position (stop_at s j) d (s.car i).speed)

    point_held : (k : ℕ) → k < r.count → point_of (get_or dests k nan) (get_or sides k nan) ≡ get_or points k (point_of nan nan)
    unfolding points
    point_held k l =
        let m = hr.counted in
        let held : get_or dests k nan ≡ (get_or points k (point_of nan nan)).along =
        ap (λ (z : List Float). get_or z k nan) hr.held
        ∙ collected_map (rides_to s i) (λ b. stands_at (bound_for s i b)) (λ (d : Point). d.along) s.aboards k (point_of nan nan) nan [] hr.rest
        (omega arith) in
        let aside : get_or sides k nan ≡ (get_or points k (point_of nan nan)).across =
        ap (λ (z : List Float). get_or z k nan) hr.aside
        ∙ collected_map (rides_to s i) (λ b. stands_at (bound_for s i b)) (λ (d : Point). d.across) s.aboards k (point_of nan nan) nan []
        hr.rest_aside (omega arith) in
        ap₂ point_of held aside

    delay_is : delay_in (s.car i).position (stop_at s j) (s.car i).speed dests sides r.count ≡ rider_delay s i j
    unfolding delay_in rider_delay points delayed
    delay_is =
        fold_cong (λ a k. delayed a (point_of (get_or dests k nan) (get_or sides k nan))) (λ a k. delayed a (get_or points k (point_of nan nan))) Num.zero
        r.count (λ a k l. ap (delayed a) (point_held k l))
        ∙ ap (λ (m : ℕ). fold (λ a k. delayed a (get_or points k (point_of nan nan))) Num.zero m) hr.counted
        ∙ fold_collected (rides_to s i) (λ b. stands_at (bound_for s i b)) delayed Num.zero s.aboards [] (point_of nan nan)
        ∙ fold_cong (λ a b. cond (rides_to s i b) (delayed a (stands_at (bound_for s i b))) a)
        (λ a b. cond (rides s i b) (add_delay (s.car i).position (stop_at s j) (s.car i).speed a (bound_for s i b)) a)
        Num.zero s.aboards (λ a b l. by a (rides s i b) (bound_for s i b))
      where
        by : (a : Float) (b : Bool) (d : Option Point)
            → cond (b && is_at d) (delayed a (stands_at d)) a ≡ cond b (add_delay (s.car i).position (stop_at s j) (s.car i).speed a d) a
        by a false d = refl
        by a true None = refl
        by a true (Some x) = refl

    cost_is : cost_by s.policy (s.car i) (goal s i) r.count dests sides
        (halts_at (s.car i).position.along demand xs n j) (stop_at s j) ≡ compute_cost s i j
    unfolding cost_by compute_cost travel_time
    cost_is = rw (halts_are, delay_is)

    -- the rank of stop j
    pub rank_is : Weighed s i → (v : Waiters) → HoldsWaiters s j v
        → rank_by s.policy (s.car i) (goal s i) r dests sides v
        (halts_at (s.car i).position.along demand xs n j) xs j ≡ etd_rank s i j
    unfolding rank_by fair_cost_by etd_rank
    rank_is w v hv =
        rw (
          point_is s ids xs n hs j l,
          useful_is s i j w r dests sides hr v hv false (let e = hs.counted in omega arith),
          cost_is,
          hv.squares,
          hv.waitsum,
        )

    -- what its cost is made of
    pub terms_are : (v : Waiters) → HoldsWaiters s j v
        → terms_by s.policy (s.car i) (goal s i) r.count dests sides v
        (halts_at (s.car i).position.along demand xs n j) (stop_at s j) ≡ etd_terms s i j
    unfolding terms_by fair_cost_by etd_terms travel_time
    terms_are v hv = rw (cost_is, halts_are, delay_is, hv.squares, hv.waitsum)
