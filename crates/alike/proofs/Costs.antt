-- Alike sheets have the same ranks: no cost knows a second coordinate but by a distance, nor what is barred. Assumes nothing.
use Rattle.std.specs.Prelude.{None, Option, Some}
use Rattle.std.specs.Prelude.{ℕ, zero, suc, ◌<◌, ◌≡◌, Bool, ◌&&◌, ◌||◌, ◌⊎◌, Float}
use Rattle.std.proofs.Common.{arith, inl, inr, ⊎_elim}
use Rattle.std.proofs.Math.Path.{refl, ap, ap₂}
use Rattle.std.proofs.Math.Bool.{true, false, not, cond}
use Rattle.std.proofs.Math.Dec.{eqb}
use Rattle.std.specs.Float.Ieee.{lt}
use Rattle.laws.specs.Folds.{lookup, fold_cong, any_cong, count_cong}
use Rattle.fp.specs.Num as Num
use Rattle.fp.specs.Num.{plus, over}
use Rattle.components.specs.declared.Point.{Point}
use Rattle.components.specs.declared.Stop.{Stop}
use Rattle.components.specs.declared.Line.{Line}
use Rattle.components.specs.declared.Car.{Car}
use Rattle.components.specs.declared.Aboard.{Aboard}
use Rattle.components.specs.declared.Waiting.{Waiting}
use Rattle.components.specs.declared.Demand.{Demand}
use Rattle.components.specs.declared.Phase.{Phase}
use Rattle.components.specs.declared.Phase.TheVariants.{Idle, MovingToStop, Repositioning, DoorOpening, Loading, DoorClosing, Stopped, Unknown}
use Rattle.components.specs.Points.{distance}
use Rattle.components.specs.Sheet.{Sheet}
use Rattle.manifest.specs.World.{stop_id, stop_at, stop_position, goal, goal_of, rides}
use Rattle.manifest.specs.Manifest.{waits_at, demand_stop}
use Rattle.sweep.specs.declared.Sweep.{Sweep}
use Rattle.sweep.specs.Sweeps.{sweep_of, strictly_ahead, sweep_rank}
use Rattle.scan.specs.Scan.{rank_of, strict_demand_ahead, prepared_sweep, scan_rank}
use Rattle.dispatch.specs.Useful.{loaded_to, bypass, lamps_allow, rider_can_board, on_path, on_path_to, can_exit_here, servable, on_aboard_path, pair_is_useful}
use Rattle.dispatch.specs.Waits.{wait_ticks, wait_ticks_squared, sum_at, wait_ticks_sum, wait_ticks_squared_sum}
use Rattle.etd.specs.Etd.{intervenes, extra_delay, add_delay, is_ahead, moving_bonus, direction_bonus, travel_time, intervening_stops, rider_delay, compute_cost, etd_rank}
use Rattle.rsr.specs.Rsr.{wrong_direction, rsr_cost_of, rsr_rank}
use Rattle.assignment.specs.Cells.{sweep_after, rank}
use Rattle.alike.specs.Alike.{Alike, LikeCar, other}
use Rattle.alike.specs.Stops.{same_room, same_waits, same_someone, same_call, same_demand, same_idle, same_stops}

-- ---- looked up in both: nothing, or at one index

abbrev Both : {A B : Type 0} → (ℕ → A) → (ℕ → B) → A → B → ℕ → A → B → Type 0
Both f g z y n a b = ((a ≡ z) × (b ≡ y)) ⊎ ((k : ℕ) × (k < n) × (a ≡ f k) × (b ≡ g k))

both_looked : {A B : Type 0} (p q : ℕ → Bool) (f : ℕ → A) (g : ℕ → B) (z : A) (y : B) (n : ℕ) → ((k : ℕ) → k < n → p k ≡ q k)
    → Both f g z y n (lookup p f z n) (lookup q g y n)
unfolding lookup
both_looked p q f g z y zero h = inl (refl, refl)
both_looked {A} {B} p q f g z y (suc n) h =
    by (p n) (q n) (h n (omega arith)) (both_looked p q f g z y n (λ k l. h k (omega arith)))
  where
    by : (b c : Bool) → b ≡ c → Both f g z y n (lookup p f z n) (lookup q g y n)
        → Both f g z y (suc n) (cond b (f n) (lookup p f z n)) (cond c (g n) (lookup q g y n))
    by true true e r = inr (n, omega arith, refl, refl)
    by true false e r = absurd (let w : ◌≡◌ {A = ℕ} 0 1 = cc in omega arith)
    by false true e r = absurd (let w : ◌≡◌ {A = ℕ} 0 1 = cc in omega arith)
    by false false e (inl r) = inl r
    by false false e (inr (k, l, a, b)) = inr (k, omega arith, a, b)

-- two places with one first coordinate, or none
pub record LikePlace (p q : Option Point) : Type 0 where
  pub bypassed : {c d : Car} → LikeCar c d → {x y : Float} → x ≡ y → bypass c p x ≡ bypass d q y
  pub lit : {c d : Car} → LikeCar c d → {x y : Float} → x ≡ y → lamps_allow c x p ≡ lamps_allow d y q
  pub on_path_lem : {x y v w : Float} → x ≡ v → y ≡ w → on_path_to x y p ≡ on_path_to v w q
  pub bonus : {x y t v w u : Float} → x ≡ v → y ≡ w → t ≡ u → moving_bonus x y t p ≡ moving_bonus v w u q
  pub wrong : {x y v w : Float} → x ≡ v → y ≡ w → wrong_direction p x y ≡ wrong_direction q v w

like_nowhere : LikePlace None None
like_nowhere =
    record { bypassed = λ h e. refl; lit = λ h e. refl; on_path_lem = λ e f. refl; bonus = λ e f g. refl; wrong = λ e f. refl }

same_loaded : {c d : Car} → LikeCar c d → {x y : Option Float} → x ≡ y → loaded_to c x ≡ loaded_to d y
same_loaded {c} {d} h {x} {y} e = rw e (by y)
  where
    by : (z : Option Float) → loaded_to c z ≡ loaded_to d z
    by None = refl
    by (Some pct) = rw (h.capacity, h.load)

by_values : {a b g k x y : Float} {u v w z : Bool} → a ≡ b → g ≡ k → x ≡ y → u ≡ w → v ≡ z
    → cond (lt a g) (u && lt a x) (lt g a && (v && lt x a)) ≡ cond (lt b k) (w && lt b y) (lt k b && (z && lt y b))
by_values e f g h i = cc

like_at : (p q : Point) → p.along ≡ q.along → LikePlace (Some p) (Some q)
unfolding on_path is_ahead
like_at p q e =
    record {
      bypassed = λ h f. by_values h.along e f (same_loaded h h.bypassup) (same_loaded h h.bypassdown);
      lit = λ h f. rw (h.up, h.down, e, f);
      on_path_lem = λ f g. rw (e, f, g);
      bonus = λ f g k. rw (e, f, g, k);
      wrong = λ f g. rw (e, f, g);
    }

module _ (s : Sheet) (stop : ℕ → Stop) (line : ℕ → Line) (car : ℕ → Car) (aboard : ℕ → Aboard) (waiting : ℕ → Waiting)
    (demand : ℕ → Demand) (closed : ℕ → ℕ) (h : Alike s stop line car aboard waiting demand closed) where
  abbrev t : Sheet
  t = other s stop line car aboard waiting demand closed

  -- ---- where a stop stands

  both_placed : (id : ℕ) → Both (λ k. Some (stop_at s k)) (λ k. Some (stop_at t k)) None None s.stops (stop_position s id) (stop_position t id)
  unfolding stop_position
  both_placed id =
      both_looked (λ k. eqb (stop_id s k) id) (λ k. eqb (stop_id t k) id) (λ k. Some (stop_at s k)) (λ k. Some (stop_at t k)) None None s.stops
      (λ k l. ap (λ (x : ℕ). eqb x id) (h.a_stop k l).id)

  like_placed : (id : ℕ) → LikePlace (stop_position s id) (stop_position t id)
  like_placed id =
      ⊎_elim
      (λ r. rw (r.0, r.1) like_nowhere)
      (λ r. let (k, l, a, b) = r in rw (a, b) (like_at (stop_at s k) (stop_at t k) (h.a_stop k l).along))
      (both_placed id)

  like_goal : (i : ℕ) → i < s.cars → LikePlace (goal s i) (goal t i)
  unfolding goal
  like_goal i l = rw (h.a_car i l).phase (by (car i).phase)
    where
      by : (p : Phase) → LikePlace (goal_of (stop_position s) p) (goal_of (stop_position t) p)
      by Idle = like_nowhere
      by (MovingToStop id) = like_placed id
      by (Repositioning id) = like_placed id
      by DoorOpening = like_nowhere
      by Loading = like_nowhere
      by DoorClosing = like_nowhere
      by Stopped = like_nowhere
      by Unknown = like_nowhere

  -- ---- whether a pair is useful

  same_rides : (i a : ℕ) → i < s.cars → a < s.aboards → rides s i a ≡ rides t i a
  same_rides i a li la = ap₂ (λ (x : Aboard) (y : ℕ). eqb x.car y) (h.a_rider a la) (h.a_car i li).id

  module _ (i j : ℕ) (li : i < s.cars) (lj : j < s.stops) where
    same_x : (s.car i).position.along ≡ (car i).position.along
    same_x = (h.a_car i li).along

    same_p : (stop_at s j).along ≡ (stop_at t j).along
    same_p = (h.a_stop j lj).along

    same_exit : can_exit_here s i j ≡ can_exit_here t i j
    unfolding can_exit_here
    same_exit =
        any_cong (λ a. rides s i a && eqb (s.aboard a).destination (stop_id s j)) (λ a. rides t i a && eqb (aboard a).destination (stop_id t j))
        s.aboards
        (λ a la. rw (same_rides i a li la, h.a_rider a la, (h.a_stop j lj).id))

    same_servable : servable s i j ≡ servable t i j
    unfolding servable rider_can_board
    same_servable =
        rw (
          same_someone s stop line car aboard waiting demand closed h j lj,
          same_call s stop line car aboard waiting demand closed h j lj,
          any_cong
              (λ w. waits_at s j w
              && rider_can_board (s.car i) (stop_at s j).along (s.waiting w).weight (stop_position s (s.waiting w).destination))
              (λ w. waits_at t j w && rider_can_board (car i) (stop_at t j).along (waiting w).weight (stop_position t (waiting w).destination))
              s.waits
              (λ w lw. rw (
                same_waits s stop line car aboard waiting demand closed h j w lj lw,
                h.a_waiter w lw,
                same_room (h.a_car i li),
                (like_placed (waiting w).destination).lit (h.a_car i li) same_p,
              )),
        )

    same_path : on_aboard_path s i j ≡ on_aboard_path t i j
    unfolding on_aboard_path
    same_path =
        ap₂ (λ (x y : Bool). not x || y)
        (any_cong (λ a. rides s i a && not (eqb (s.aboard a).destination 0)) (λ a. rides t i a && not (eqb (aboard a).destination 0)) s.aboards
        (λ a la. rw (same_rides i a li la, h.a_rider a la)))
        (any_cong
        (λ a. rides s i a && on_path_to (s.car i).position.along (stop_at s j).along (stop_position s (s.aboard a).destination))
        (λ a. rides t i a && on_path_to (car i).position.along (stop_at t j).along (stop_position t (aboard a).destination))
        s.aboards
        (λ a la. rw (same_rides i a li la, h.a_rider a la, (like_placed (aboard a).destination).on_path_lem same_x same_p)))

    pub same_useful : (path : Bool) → pair_is_useful s i j path ≡ pair_is_useful t i j path
    unfolding pair_is_useful
    same_useful path =
        rw (same_exit, (like_goal i li).bypassed (h.a_car i li) same_p, same_room (h.a_car i li), same_servable, same_path)

    -- ---- ETD

    same_travel : travel_time s i j ≡ travel_time t i j
    unfolding travel_time
    same_travel = ap₂ over (h.away i j li lj) (h.a_car i li).speed

    same_intervening : intervening_stops s i j ≡ intervening_stops t i j
    unfolding intervening_stops
    same_intervening =
        count_cong (λ k. demand_stop s k && intervenes (s.car i).position.along (stop_at s j).along (stop_at s k).along)
        (λ k. demand_stop t k && intervenes (car i).position.along (stop_at t j).along (stop_at t k).along) s.stops
        (λ k lk. rw (same_demand s stop line car aboard waiting demand closed h k lk, same_x, same_p, (h.a_stop k lk).along))

    same_extra : (k : ℕ) → k < s.stops
        → extra_delay (s.car i).position (stop_at s j) (stop_at s k) (s.car i).speed
        ≡ extra_delay (car i).position (stop_at t j) (stop_at t k) (car i).speed
    unfolding extra_delay
    same_extra k lk = rw (h.away i j li lj, h.apart j k lj lk, h.away i k li lk, (h.a_car i li).speed)

    same_added : (x : Float) (id : ℕ)
        → add_delay (s.car i).position (stop_at s j) (s.car i).speed x (stop_position s id)
        ≡ add_delay (car i).position (stop_at t j) (car i).speed x (stop_position t id)
    same_added x id =
        ⊎_elim
        (λ r. rw (r.0, r.1) refl)
        (λ r. let (k, l, a, b) = r in rw (a, b) (ap (plus x) (same_extra k l)))
        (both_placed id)

    same_delay : rider_delay s i j ≡ rider_delay t i j
    unfolding rider_delay
    same_delay =
        fold_cong
        (λ x b. cond (rides s i b) (add_delay (s.car i).position (stop_at s j) (s.car i).speed x (stop_position s (s.aboard b).destination)) x)
        (λ x b. cond (rides t i b) (add_delay (car i).position (stop_at t j) (car i).speed x (stop_position t (aboard b).destination)) x)
        Num.zero s.aboards
        (λ x b lb. rw (same_rides i b li lb, h.a_rider b lb, same_added x (aboard b).destination))

    same_sum : (f : ℕ → Float) → sum_at s f j ≡ sum_at t f j
    unfolding sum_at
    same_sum f =
        fold_cong (λ a w. cond (waits_at s j w) (plus a (f (s.waiting w).wait)) a) (λ a w. cond (waits_at t j w) (plus a (f (waiting w).wait)) a)
        Num.zero s.waits
        (λ a w lw. rw (same_waits s stop line car aboard waiting demand closed h j w lj lw, h.a_waiter w lw))

    same_cost : compute_cost s i j ≡ compute_cost t i j
    unfolding compute_cost direction_bonus
    same_cost =
        let e : travel_time t i j ≡ travel_time t i j = refl in
        rw (
          same_travel,
          same_delay,
          same_intervening,
          (h.a_car i li).transition,
          (h.a_car i li).dwell,
          (h.a_car i li).phase,
          (like_goal i li).bonus same_x same_p e,
        )

    same_etd : etd_rank s i j ≡ etd_rank t i j
    unfolding etd_rank wait_ticks_sum wait_ticks_squared_sum
    same_etd = rw (same_useful false, (h.a_car i li).speed, same_cost, same_sum wait_ticks_squared, same_sum wait_ticks)

    -- ---- RSR

    same_rsr : rsr_rank s i j ≡ rsr_rank t i j
    unfolding rsr_rank rsr_cost_of wait_ticks_sum
    same_rsr =
        let k = h.a_car i li in
        rw (
          same_useful true,
          k.speed,
          h.away i j li lj,
          k.phase,
          k.load,
          k.capacity,
          k.calls,
          (like_goal i li).wrong same_x same_p,
          same_sum wait_ticks,
        )

    -- ---- SCAN

    same_scan : (w : Sweep) → scan_rank s w i j ≡ scan_rank t w i j
    unfolding scan_rank rank_of sweep_rank
    same_scan w = rw (same_useful false, h.away i j li lj, same_x, same_p)

  -- ---- sweeps and ranks

  same_own : (i : ℕ) → i < s.cars → sweep_of (s.car i) ≡ sweep_of (car i)
  same_own i li = rw ((h.a_car i li).direction, (h.a_car i li).mode)

  same_ahead : (i : ℕ) → i < s.cars → strict_demand_ahead s i ≡ strict_demand_ahead t i
  unfolding strict_demand_ahead
  same_ahead i li =
      any_cong (λ j. demand_stop s j && strictly_ahead (s.car i).direction (s.car i).position.along (stop_at s j).along)
      (λ j. demand_stop t j && strictly_ahead (car i).direction (car i).position.along (stop_at t j).along) s.stops
      (λ j lj.
      rw (same_demand s stop line car aboard waiting demand closed h j lj, (h.a_car i li).direction, (h.a_car i li).along, (h.a_stop j lj).along))

  pub same_sweep : (i : ℕ) → i < s.cars → sweep_after s i ≡ sweep_after t i
  unfolding sweep_after prepared_sweep
  same_sweep i li =
      rw (
        same_own i li,
        same_ahead i li,
        same_idle s stop line car aboard waiting demand closed h i li,
        same_stops s stop line car aboard waiting demand closed h,
      )

  -- no rank knows what is barred
  pub same_rank : (i j : ℕ) → i < s.cars → j < s.stops → rank s i j ≡ rank t i j
  unfolding rank
  same_rank i j li lj = rw (same_etd i j li lj, same_rsr i j li lj, same_sweep i li, same_scan i j li lj (sweep_after t i))
