-- RSR: rsr.rs, with its order of operations. F-12: "Directions .. use the first coordinate." Assumes nothing.
use Rattle.std.specs.Prelude.{None, Option, Some}
use Rattle.std.specs.Prelude.{ℕ, ◌≡◌, Bool, true, false, not, ◌&&◌, ◌||◌, cond, Float}
use Rattle.std.proofs.Math.Path.{ap}
use Rattle.std.specs.Float.Ieee.{lt, le}
use Rattle.fp.specs.Num.{zero, one, plus, minus, times, over, max_zero}
use Rattle.multiply_add.specs.MulAdd.{mul_add}
use Rattle.mask.specs.Mask.{has}
use Rattle.components.specs.declared.Car.{Car}
use Rattle.components.specs.declared.Point.{Point}
use Rattle.components.specs.declared.Policy.{Policy}
use Rattle.components.specs.declared.Traffic.{Traffic}
use Rattle.components.specs.declared.Traffic.TheVariants as traffic
use Rattle.components.specs.Cars.{is_idle}
use Rattle.components.specs.Points.{distance}
use Rattle.components.specs.Sheet.{Sheet}
use Rattle.manifest.specs.World.{stop_at, goal}
use Rattle.dispatch.specs.Useful.{pair_is_useful}
use Rattle.dispatch.specs.Waits.{wait_ticks_sum, with_bonus}
use Rattle.dispatch.specs.FiniteRank.{finite_rank}
use Rattle.rsr.specs.declared.Terms.{Terms}

-- ---- on values: x the car's first coordinate, p the stop's

-- the car moves to g, away from the stop
abbrev pub wrong_direction : Option Point → Float → Float → Bool
wrong_direction None x p = false
wrong_direction (Some g) x p = (lt x g.along && lt p x) || (lt g.along x && lt x p)

-- peak_scaling: the multiplier in an up or a down peak
abbrev pub peak_scaling : Traffic → Float → Float
peak_scaling traffic.Idle m = one
peak_scaling traffic.UpPeak m = m
peak_scaling traffic.InterFloor m = one
peak_scaling traffic.DownPeak m = m

-- the penalty, where its weight is above 0 and the trip reverses the car
unfoldable pub with_penalty : Float → Float → Float → Bool → Float
with_penalty cost weight scaling wrong = cond (lt zero weight && wrong) (plus cost (times weight scaling)) cost

-- the bonus, where its weight is above 0 and the car has a call for the stop
unfoldable pub with_coincident_call : Float → Float → Bool → Float
with_coincident_call cost weight call = cond (lt zero weight && call) (minus cost weight) cost

-- document 02, F-3: "the load ratio, held to 0 and 1"
unfoldable pub held_ratio : Float → Float
held_ratio x = cond (lt x zero) zero (cond (lt one x) one x)

-- "times the weight plus the running cost, the exact value rounded once to nearest, ties to even", where the weight is above 0 and the car is not in
-- phase idle. "A car of capacity 0 is treated as rsr.rs treats it": it has no such term
unfoldable pub with_load : Float → Float → Bool → Float → Float → Float
with_load cost weight idle load capacity =
    cond (lt zero weight && (not idle && lt zero capacity)) (mul_add weight (held_ratio (over load capacity)) cost) cost

-- compute_cost: eta, wrong direction, coincident call, load, age; of a car that moves to goal, for a stop at p where so many ticks were waited, and for
-- which the car has a call, or not
unfoldable pub rsr_cost_of : Policy → Car → Option Point → Float → Bool → Point → Float
rsr_cost_of y c goal waited call p =
    let eta = times y.w0 (over (distance c.position p) c.speed) in
    let reversed = with_penalty eta y.w1 (peak_scaling y.traffic y.w5) (wrong_direction goal c.position.along p.along) in
    let called = with_coincident_call reversed y.w2 call in
    let loaded = with_load called y.w3 (is_idle c.phase) c.load c.capacity in
    let aged = with_bonus loaded y.w4 waited in
    max_zero aged

-- what it is made of: the running cost after each term
unfoldable pub rsr_terms_of : Policy → Car → Option Point → Float → Bool → Point → Terms
rsr_terms_of y c goal waited call p =
    let eta = times y.w0 (over (distance c.position p) c.speed) in
    let reversed = with_penalty eta y.w1 (peak_scaling y.traffic y.w5) (wrong_direction goal c.position.along p.along) in
    let called = with_coincident_call reversed y.w2 call in
    let loaded = with_load called y.w3 (is_idle c.phase) c.load c.capacity in
    record {
      travel = over (distance c.position p) c.speed;
      eta = eta;
      reversed = reversed;
      called = called;
      loaded = loaded;
      waitsum = waited;
      aged = with_bonus loaded y.w4 waited;
      cost = rsr_cost_of y c goal waited call p;
    }

module _ (y : Policy) (c : Car) (goal : Option Point) (waited : Float) (call : Bool) (p : Point) where
  pub cost_by_lem : {t : Terms} → t ≡ rsr_terms_of y c goal waited call p → t.cost ≡ rsr_cost_of y c goal waited call p
  unfolding rsr_terms_of
  cost_by_lem e = ap (λ (t : Terms). t.cost) e

  -- term by term
  pub terms_by_lem : {away scaling reversed called loaded aged cost : Float} {wrong idle : Bool}
      → away ≡ distance c.position p → scaling ≡ peak_scaling y.traffic y.w5 → wrong ≡ wrong_direction goal c.position.along p.along
      → reversed ≡ with_penalty (times y.w0 (over away c.speed)) y.w1 scaling wrong → called ≡ with_coincident_call reversed y.w2 call
      → idle ≡ is_idle c.phase → loaded ≡ with_load called y.w3 idle c.load c.capacity → aged ≡ with_bonus loaded y.w4 waited
      → cost ≡ max_zero aged
      → record {
        travel = over away c.speed;
        eta = times y.w0 (over away c.speed);
        reversed = reversed;
        called = called;
        loaded = loaded;
        waitsum = waited;
        aged = aged;
        cost = cost;
      } ≡ rsr_terms_of y c goal waited call p
  unfolding rsr_terms_of rsr_cost_of
  terms_by_lem ea es ew er ec ei el eg eo = rw (eo, eg, el, ei, ec, er, ew, es, ea)

-- ---- over a sheet

module _ (s : Sheet) (i j : ℕ) where
  abbrev pub rsr_cost : Float
  rsr_cost = rsr_cost_of s.policy (s.car i) (goal s i) (wait_ticks_sum s j) (has (s.car i).calls j) (stop_at s j)

  abbrev pub rsr_terms : Terms
  rsr_terms = rsr_terms_of s.policy (s.car i) (goal s i) (wait_ticks_sum s j) (has (s.car i).calls j) (stop_at s j)

  -- rank. "Speed 0 gives ETD and RSR no rank"
  unfoldable pub rsr_rank : Option Float
  rsr_rank = cond (pair_is_useful s i j true && not (le (s.car i).speed zero)) (finite_rank rsr_cost) None
