-- RSR's ranks are finite and never below zero, on every sheet; and in document 01's admitted ranges a useful pair of a car that can move has a rank.
-- Assumes nothing.
use Rattle.std.specs.Prelude.{Some}
use Rattle.std.specs.Prelude.{ℕ, ◌*◌, ◌^◌, ◌<◌, ◌≡◌, refl, Bool, true, false, not, ◌&&◌, cond, Float}
use Rattle.std.proofs.Common.{arith, sym, lit≤, ltb-false}
use Rattle.std.specs.Float.{nan, inf, fin}
use Rattle.std.specs.Float.Ieee.{of_bits, up, down, lt, le, eq}
use Rattle.laws.specs.Bools.{never}
use Rattle.fp.specs.Num as Num
use Rattle.fp.specs.Num.{one, plus, minus, times, over, finite}
use Rattle.fp.specs.Order.{le_tells}
use Rattle.fp.specs.Ranges.{is_mass}
use Rattle.fp.specs.Nonneg.{max_zero_nonneg, over_nonneg, unsigned}
use Rattle.fp.specs.Inside.{AtMost, size_finite, mass_finite, mass_nonneg}
use Rattle.fp.specs.Sizes.{max_zero_size, plus_size, minus_size, times_size, over_size, mass_power, speed_power}
use Rattle.multiply_add.specs.MulAdd.{mul_add}
use Rattle.multiply_add.specs.Sizes.{mul_add_size}
use Rattle.mask.specs.Mask.{has}
use Rattle.components.specs.declared.Traffic.{Traffic}
use Rattle.components.specs.declared.Traffic.TheVariants as traffic
use Rattle.components.specs.Cars.{is_idle}
use Rattle.components.specs.Points.{distance, distance_size, placed_size}
use Rattle.components.specs.Sheet.{Sheet}
use Rattle.manifest.specs.World.{stop_at, goal}
use Rattle.dispatch.specs.Useful.{pair_is_useful}
use Rattle.dispatch.specs.Waits.{with_bonus, wait_ticks_sum}
use Rattle.dispatch.specs.Admitted.{Admitted, grow, with_bonus_size}
use Rattle.dispatch.proofs.Admitted.{waitsum_size}
use Rattle.dispatch.specs.FiniteRank.{finite_rank, ranked}
use Rattle.rsr.specs.Rsr.{wrong_direction, peak_scaling, with_penalty, with_coincident_call, held_ratio, with_load, rsr_cost_of, rsr_cost, rsr_rank}

-- a rank is never negative and never a NaN: 0 is at most it
pub rsr_nonneg : (s : Sheet) (i j : ℕ) (x : Float) → rsr_rank s i j ≡ Some x → (le Num.zero x ≡ true) × (finite x ≡ true)
unfolding rsr_rank rsr_cost_of
rsr_nonneg s i j x h =
    let (e, f) = ranked (pair_is_useful s i j true && not (le (s.car i).speed Num.zero)) (rsr_cost s i j) x h in
    let n : le Num.zero (rsr_cost s i j) ≡ true = max_zero_nonneg _ in
    (rw e at n, rw e at f)

-- ---- in the admitted ranges

one_size : AtMost (2 ^ 30) one
unfolding of_bits
one_size = lit≤ tt

scaling_size : (t : Traffic) (m : Float) → AtMost (2 ^ 30) m → AtMost (2 ^ 30) (peak_scaling t m)
scaling_size traffic.Idle m p = one_size
scaling_size traffic.UpPeak m p = p
scaling_size traffic.InterFloor m p = one_size
scaling_size traffic.DownPeak m p = p

penalty_size : (cost weight scaling : Float) (wrong : Bool) → AtMost (2 ^ 62) cost → AtMost (2 ^ 30) weight → AtMost (2 ^ 30) scaling
    → AtMost (2 ^ 63) (with_penalty cost weight scaling wrong)
unfolding with_penalty
penalty_size cost weight scaling wrong p q r = by (lt Num.zero weight && wrong)
  where
    by : (b : Bool) → AtMost (2 ^ 63) (cond b (plus cost (times weight scaling)) cost)
    by true = plus_size 62 cost (times weight scaling) (lit≤ tt) p
        (grow 60 62 (times weight scaling) (lit≤ tt) (times_size 30 30 weight scaling (lit≤ tt) q r))
    by false = grow 62 63 cost (lit≤ tt) p

call_size : (cost weight : Float) (call : Bool) → AtMost (2 ^ 63) cost → AtMost (2 ^ 30) weight
    → AtMost (2 ^ 64) (with_coincident_call cost weight call)
unfolding with_coincident_call
call_size cost weight call p q = by (lt Num.zero weight && call)
  where
    by : (b : Bool) → AtMost (2 ^ 64) (cond b (minus cost weight) cost)
    by true = minus_size 63 cost weight (lit≤ tt) p (grow 30 63 weight (lit≤ tt) q)
    by false = grow 63 64 cost (lit≤ tt) p

-- from 0 to 1
inside : (x : Float) → le Num.zero x ≡ true → lt one x ≡ false → AtMost (2 ^ 0) x
unfolding le lt eq of_bits
inside nan h l = never h
inside (inf true) h l = never h
inside (inf false) h l = never (sym l)
inside (fin true m e) h l = omega (arith, unsigned m e h)
inside (fin false m e) h l = omega (arith, ltb-false (1 * 1 * down e) (m * up e * 1) l)

-- a ratio that is not below 0 is held to 1 at most
held_size : (x : Float) → le Num.zero x ≡ true → AtMost (2 ^ 0) (held_ratio x)
unfolding held_ratio of_bits
held_size x h = by (lt x Num.zero) (lt one x) (inside x h)
  where
    by : (b c : Bool) → (c ≡ false → AtMost (2 ^ 0) x) → AtMost (2 ^ 0) (cond b Num.zero (cond c one x))
    by true c f = lit≤ tt
    by false true f = lit≤ tt
    by false false f = f refl

load_size : (cost weight : Float) (idle : Bool) (load capacity : Float) → AtMost (2 ^ 64) cost → AtMost (2 ^ 30) weight → is_mass load ≡ true
    → is_mass capacity ≡ true → AtMost (2 ^ 65) (with_load cost weight idle load capacity)
unfolding with_load
load_size cost weight idle load capacity p q f g = by (lt Num.zero weight) idle (lt Num.zero capacity) refl
  where
    by : (a i b : Bool) → lt Num.zero capacity ≡ b
        → AtMost (2 ^ 65) (cond (a && (not i && b)) (mul_add weight (held_ratio (over load capacity)) cost) cost)
    by true false true e =
        mul_add_size 30 0 64 weight (held_ratio (over load capacity)) cost (lit≤ tt) (lit≤ tt) q
        (held_size (over load capacity) (over_nonneg load capacity (mass_finite load f) (mass_finite capacity g) (mass_nonneg load f) e)) p
    by true false false e = grow 64 65 cost (lit≤ tt) p
    by true true b e = grow 64 65 cost (lit≤ tt) p
    by false i b e = grow 64 65 cost (lit≤ tt) p

module _ (s : Sheet) (a : Admitted s) (i j : ℕ) (li : i < s.cars) (lj : j < s.stops) (moves : lt Num.zero (s.car i).speed ≡ true) where
  eta_size : AtMost (2 ^ 62) (times s.policy.w0 (over (distance (s.car i).position (stop_at s j)) (s.car i).speed))
  eta_size =
      times_size 30 32 s.policy.w0 (over (distance (s.car i).position (stop_at s j)) (s.car i).speed) (lit≤ tt)
      (mass_power s.policy.w0 a.w0)
      (over_size 22 10 (distance (s.car i).position (stop_at s j)) (s.car i).speed (lit≤ tt)
      (distance_size 20 (s.car i).position (stop_at s j) (lit≤ tt)
      (placed_size (s.car i).position (a.car_at i li)) (placed_size (stop_at s j) (a.stop_at_lem j lj)))
      (speed_power (s.car i).speed (a.speed i li) moves))

  above_zero : le (s.car i).speed Num.zero ≡ false
  above_zero = by (le (s.car i).speed Num.zero) refl
    where
      by : (b : Bool) → le (s.car i).speed Num.zero ≡ b → b ≡ false
      by true h = let (p, q, l) = le_tells (s.car i).speed Num.zero h in rw moves at l
      by false h = refl

  -- "In the admitted ranges every rank is finite": a useful pair has one
  pub rsr_ranked : pair_is_useful s i j true ≡ true → rsr_rank s i j ≡ Some (rsr_cost s i j)
  unfolding rsr_rank finite_rank rsr_cost_of
  rsr_ranked u = rw (u, above_zero, cost_finite)
    where
      cost_finite : finite (rsr_cost s i j) ≡ true
      cost_finite =
          let eta = times s.policy.w0 (over (distance (s.car i).position (stop_at s j)) (s.car i).speed) in
          let scaling = peak_scaling s.policy.traffic s.policy.w5 in
          let wrong = wrong_direction (goal s i) (s.car i).position.along (stop_at s j).along in
          let reversed = with_penalty eta s.policy.w1 scaling wrong in
          let called = with_coincident_call reversed s.policy.w2 (has (s.car i).calls j) in
          let loaded = with_load called s.policy.w3 (is_idle (s.car i).phase) (s.car i).load (s.car i).capacity in
          size_finite (2 ^ 596) (rsr_cost s i j)
          (max_zero_size (2 ^ 596) (with_bonus loaded s.policy.w4 (wait_ticks_sum s j))
          (with_bonus_size 565 595 loaded s.policy.w4 (wait_ticks_sum s j) (lit≤ tt) (lit≤ tt)
          (grow 65 595 loaded (lit≤ tt)
          (load_size called s.policy.w3 (is_idle (s.car i).phase) (s.car i).load (s.car i).capacity
          (call_size reversed s.policy.w2 (has (s.car i).calls j)
          (penalty_size eta s.policy.w1 scaling wrong eta_size (mass_power s.policy.w1 a.w1)
          (scaling_size s.policy.traffic s.policy.w5 (mass_power s.policy.w5 a.w5)))
          (mass_power s.policy.w2 a.w2))
          (mass_power s.policy.w3 a.w3) (a.load i li) (a.capacity i li)))
          (mass_power s.policy.w4 a.w4) (waitsum_size s a j)))
