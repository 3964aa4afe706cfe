-- ETD's ranks are finite and never below zero, on every sheet; and in document 01's admitted ranges a useful pair of a car that can move has a rank:
-- its cost passes the test that it is finite. Assumes nothing.
use Rattle.std.specs.Prelude.{None, Option, Some}
use Rattle.std.specs.Prelude.{ℕ, ◌+◌, ◌*◌, ◌^◌, ◌≤◌, ◌<◌, ◌≡◌, Bool, ◌&&◌, Float}
use Rattle.std.proofs.Common.{arith, lit≤}
use Rattle.std.proofs.Math.Nat.{le_trans}
use Rattle.std.proofs.Math.Bool.{true, false, cond}
use Rattle.std.specs.Float.Ieee.{of_bits, lt, le, neg}
use Rattle.laws.specs.Folds.{count-le}
use Rattle.fp.specs.Num as Num
use Rattle.fp.specs.Num.{half, three_tenths, plus, minus, times, over, max_zero, fma, finite, natural}
use Rattle.fp.specs.Nonneg.{max_zero_nonneg}
use Rattle.fp.specs.Inside.{AtMost, size_finite}
use Rattle.fp.specs.Sizes.{AtLeast, natural_size, neg_size, max_zero_size, plus_size, minus_size, times_size, over_size, fold_size}
use Rattle.fp.specs.Sizes.{mass_power, speed_power, tick_rate_power}
use Rattle.components.specs.declared.Point.{Point}
use Rattle.components.specs.declared.Phase.{Phase}
use Rattle.components.specs.Cars.{is_moving, is_idle}
use Rattle.components.specs.Points.{distance, Sized, distance_size, placed_size}
use Rattle.components.specs.Sheet.{Sheet}
use Rattle.manifest.specs.World.{stop_at, stop_position, goal, rides}
use Rattle.manifest.specs.Manifest.{demand_stop}
use Rattle.dispatch.specs.Useful.{pair_is_useful}
use Rattle.dispatch.specs.Waits.{with_bonus, wait_ticks_sum, wait_ticks_squared_sum}
use Rattle.dispatch.specs.Admitted.{Admitted, Placed, placed, grow, fma_size, with_bonus_size, with_bonus_nonneg, zero_size}
use Rattle.dispatch.proofs.Admitted.{waitsum_size, squares_size}
use Rattle.etd.specs.Etd.{intervenes, door_cost, extra_delay, add_delay, is_ahead, moving_bonus, direction_bonus, weighted, travel_time}
use Rattle.etd.specs.Etd.{intervening_stops, rider_delay, compute_cost, fair_cost, etd_rank}
use Rattle.dispatch.specs.FiniteRank.{finite_rank, ranked}

-- ---- on every sheet

module _ (s : Sheet) (i j : ℕ) where
  cost_nonneg : le Num.zero (fair_cost s i j) ≡ true
  unfolding compute_cost weighted
  cost_nonneg =
      with_bonus_nonneg (with_bonus (compute_cost s i j) s.policy.w3 (wait_ticks_squared_sum s j)) s.policy.w4 (wait_ticks_sum s j)
      (with_bonus_nonneg (compute_cost s i j) s.policy.w3 (wait_ticks_squared_sum s j) (max_zero_nonneg _))

  -- a rank is never negative and never a NaN: 0 is at most it
  pub etd_nonneg : (x : Float) → etd_rank s i j ≡ Some x → (le Num.zero x ≡ true) × (finite x ≡ true)
  unfolding etd_rank
  etd_nonneg x h =
      let (e, f) = ranked (pair_is_useful s i j false && lt Num.zero (s.car i).speed) (fair_cost s i j) x h in (rw e at cost_nonneg, rw e at f)

-- ---- in the admitted ranges

door_size : (k t d : ℕ) (rate : Float) → k ≤ 64 → t * 2 + d ≤ 4_294_967_295 → AtLeast 0 rate → AtMost (2 ^ 38) (door_cost k t d rate)
unfolding door_cost
door_size k t d rate l m p =
    times_size 6 32 (natural k) (over (natural (t * 2 + d)) rate) (lit≤ tt) (natural_size 6 k (lit≤ tt) l)
    (over_size 32 0 (natural (t * 2 + d)) rate (lit≤ tt) (natural_size 32 (t * 2 + d) (lit≤ tt) (omega arith)) p)

extra_size : (x p d : Point) (speed : Float) → Sized 20 x → Sized 20 p → Sized 20 d → AtLeast 10 speed → AtMost (2 ^ 34) (extra_delay x p d speed)
unfolding extra_delay
extra_size x p d speed a b c v =
    over_size 24 10 (max_zero (minus (plus (distance x p) (distance p d)) (distance x d))) speed (lit≤ tt)
    (max_zero_size (2 ^ 24) (minus (plus (distance x p) (distance p d)) (distance x d))
    (minus_size 23 (plus (distance x p) (distance p d)) (distance x d) (lit≤ tt)
    (plus_size 22 (distance x p) (distance p d) (lit≤ tt) (distance_size 20 x p (lit≤ tt) a b) (distance_size 20 p d (lit≤ tt) b c))
    (grow 22 23 (distance x d) (lit≤ tt) (distance_size 20 x d (lit≤ tt) a c))))
    v

half_size : AtMost (2 ^ 0) half
unfolding of_bits
half_size = lit≤ tt

three_tenths_size : AtMost (2 ^ 0) three_tenths
unfolding of_bits
three_tenths_size = lit≤ tt

bonus_size : (phase : Phase) (g : Option Point) (x p travel : Float) → AtMost (2 ^ 32) travel → AtMost (2 ^ 32) (direction_bonus phase g x p travel)
unfolding direction_bonus
bonus_size phase g x p travel t = by (is_moving phase) (is_idle phase)
  where
    to : (g : Option Point) → AtMost (2 ^ 32) (moving_bonus x p travel g)
    to None = zero_size (2 ^ 32)
    to (Some d) = ahead (is_ahead x p d.along)
      where
        ahead : (b : Bool) → AtMost (2 ^ 32) (cond b (times (neg travel) half) Num.zero)
        ahead true = times_size 32 0 (neg travel) half (lit≤ tt) (neg_size (2 ^ 32) travel t) half_size
        ahead false = zero_size (2 ^ 32)

    by : (a b : Bool) → AtMost (2 ^ 32) (cond a (moving_bonus x p travel g) (cond b (times (neg travel) three_tenths) Num.zero))
    by true b = to g
    by false true = times_size 32 0 (neg travel) three_tenths (lit≤ tt) (neg_size (2 ^ 32) travel t) three_tenths_size
    by false false = zero_size (2 ^ 32)

module _ (s : Sheet) (a : Admitted s) (i j : ℕ) (li : i < s.cars) (lj : j < s.stops) (moves : lt Num.zero (s.car i).speed ≡ true) where
  car_size : Sized 20 (s.car i).position
  car_size = placed_size (s.car i).position (a.car_at i li)

  stop_size : Sized 20 (stop_at s j)
  stop_size = placed_size (stop_at s j) (a.stop_at_lem j lj)

  speed_size : AtLeast 10 (s.car i).speed
  speed_size = speed_power (s.car i).speed (a.speed i li) moves

  travel_size : AtMost (2 ^ 32) (travel_time s i j)
  unfolding travel_time
  travel_size =
      over_size 22 10 (distance (s.car i).position (stop_at s j)) (s.car i).speed (lit≤ tt)
      (distance_size 20 (s.car i).position (stop_at s j) (lit≤ tt) car_size stop_size) speed_size

  stops_few : intervening_stops s i j ≤ 64
  unfolding intervening_stops
  stops_few =
      le_trans (count-le (λ k. demand_stop s k && intervenes (s.car i).position.along (stop_at s j).along (stop_at s k).along) s.stops)
      a.stops

  delay_size : AtMost (2 ^ 546) (rider_delay s i j)
  unfolding rider_delay
  delay_size =
      let m = a.aboards in
      grow (34 + s.aboards) 546 (rider_delay s i j) (omega arith)
      (fold_size
      (λ x b. cond (rides s i b) (add_delay (s.car i).position (stop_at s j) (s.car i).speed x (stop_position s (s.aboard b).destination)) x)
      34 s.aboards Num.zero (omega arith) (zero_size (2 ^ 34))
      (λ b k x lb u v p. by (rides s i b) (stop_position s (s.aboard b).destination) (placed s a (s.aboard b).destination) k x u v p))
    where
      by : (r : Bool) (d : Option Point) → Placed d → (k : ℕ) (x : Float) → 34 ≤ k → k < 1023 → AtMost (2 ^ k) x
          → AtMost (2 ^ (k + 1)) (cond r (add_delay (s.car i).position (stop_at s j) (s.car i).speed x d) x)
      by false d q k x u v p = grow k (k + 1) x (omega arith) p
      by true None q k x u v p = grow k (k + 1) x (omega arith) p
      by true (Some d) q k x u v p =
          plus_size k x (extra_delay (s.car i).position (stop_at s j) d (s.car i).speed) v p
          (grow 34 k (extra_delay (s.car i).position (stop_at s j) d (s.car i).speed) u
          (extra_size (s.car i).position (stop_at s j) d (s.car i).speed car_size stop_size q speed_size))

  cost_size : AtMost (2 ^ 578) (compute_cost s i j)
  unfolding compute_cost weighted
  cost_size =
      let t = travel_time s i j in
      let doors = door_cost (intervening_stops s i j) (s.car i).transition (s.car i).dwell s.policy.rate in
      let bonus = direction_bonus (s.car i).phase (goal s i) (s.car i).position.along (stop_at s j).along (travel_time s i j) in
      max_zero_size (2 ^ 578) (fma s.policy.w0 t (fma s.policy.w1 (rider_delay s i j) (fma s.policy.w2 doors bonus)))
      (fma_size 30 32 577 s.policy.w0 t (fma s.policy.w1 (rider_delay s i j) (fma s.policy.w2 doors bonus)) (lit≤ tt) (lit≤ tt)
      (mass_power s.policy.w0 a.w0) travel_size
      (fma_size 30 546 576 s.policy.w1 (rider_delay s i j) (fma s.policy.w2 doors bonus) (lit≤ tt) (lit≤ tt)
      (mass_power s.policy.w1 a.w1) delay_size
      (grow 69 576 (fma s.policy.w2 doors bonus) (lit≤ tt)
      (fma_size 30 38 68 s.policy.w2 doors bonus (lit≤ tt) (lit≤ tt)
      (mass_power s.policy.w2 a.w2)
      (door_size (intervening_stops s i j) (s.car i).transition (s.car i).dwell s.policy.rate stops_few (a.ticks i li)
      (tick_rate_power s.policy.rate a.rate))
      (grow 32 68 bonus (lit≤ tt)
      (bonus_size (s.car i).phase (goal s i) (s.car i).position.along (stop_at s j).along (travel_time s i j) travel_size))))))

  cost_finite : finite (fair_cost s i j) ≡ true
  cost_finite =
      size_finite (2 ^ 650) (fair_cost s i j)
      (with_bonus_size 565 649 (with_bonus (compute_cost s i j) s.policy.w3 (wait_ticks_squared_sum s j)) s.policy.w4 (wait_ticks_sum s j) (lit≤ tt)
      (lit≤ tt)
      (with_bonus_size 618 648 (compute_cost s i j) s.policy.w3 (wait_ticks_squared_sum s j) (lit≤ tt) (lit≤ tt)
      (grow 578 648 (compute_cost s i j) (lit≤ tt) cost_size) (mass_power s.policy.w3 a.w3) (squares_size s a j))
      (mass_power s.policy.w4 a.w4) (waitsum_size s a j))

  -- "In the admitted ranges every rank is finite": a useful pair has one
  pub etd_ranked : pair_is_useful s i j false ≡ true → etd_rank s i j ≡ Some (fair_cost s i j)
  unfolding etd_rank finite_rank
  etd_ranked u = rw (u, moves, cost_finite)
