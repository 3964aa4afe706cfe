-- Alike sheets have the same demand, the same covered stops and the same pending ones. Assumes nothing.
use Rattle.std.specs.Prelude.{ℕ, ◌<◌, ◌≡◌, Bool, ◌&&◌, ◌||◌, Float}
use Rattle.std.proofs.Math.Path.{ap, ap₂}
use Rattle.std.proofs.Math.Bool.{not, cond}
use Rattle.std.proofs.Math.Dec.{eqb, ltb}
use Rattle.laws.specs.Folds.{any, fold_cong, any_cong, every_cong, count_cong, nth_cong}
use Rattle.fp.specs.Num.{zero, plus}
use Rattle.mask.specs.Mask.{has}
use Rattle.components.specs.declared.Stop.{Stop}
use Rattle.components.specs.declared.Line.{Line}
use Rattle.components.specs.declared.Car.{Car}
use Rattle.components.specs.declared.Aboard.{Aboard}
use Rattle.components.specs.declared.Waiting.{Waiting}
use Rattle.components.specs.declared.Demand.{Demand}
use Rattle.components.specs.Cars.{remaining}
use Rattle.components.specs.Sheet.{Sheet}
use Rattle.manifest.specs.World.{stop_id, in_group}
use Rattle.manifest.specs.Manifest.{waits_at, someone_waits, riderless_call, ridden_to, has_demand, demand_stop}
use Rattle.assignment.specs.Pending.{serves, line_capacity, capacity_at, weight_at, line_served, covered_by_cars, closed_at, covered, idle, idle_bound, pending}
use Rattle.assignment.specs.Pending.{idle_cars, row_car, pending_stops, column_stop, columns}
use Rattle.alike.specs.Alike.{Alike, LikeCar, other}

-- what a car still takes
pub same_room : {c d : Car} → LikeCar c d → remaining c ≡ remaining d
same_room h = rw (h.capacity, h.load)

module _ (s : Sheet) (stop : ℕ → Stop) (line : ℕ → Line) (car : ℕ → Car) (aboard : ℕ → Aboard) (waiting : ℕ → Waiting)
    (demand : ℕ → Demand) (closed : ℕ → ℕ) (h : Alike s stop line car aboard waiting demand closed) where
  abbrev t : Sheet
  t = other s stop line car aboard waiting demand closed

  same_id : (j : ℕ) → j < s.stops → stop_id s j ≡ stop_id t j
  same_id j l = (h.a_stop j l).id

  -- ---- demand

  same_group : (j : ℕ) → in_group s j ≡ in_group t j
  unfolding in_group
  same_group j =
      any_cong (λ l. has (s.line l).serves j) (λ l. has (line l).serves j) s.lines
      (λ l b. ap (λ (x : Line). has x.serves j) (h.a_line l b))

  pub same_waits : (j w : ℕ) → j < s.stops → w < s.waits → waits_at s j w ≡ waits_at t j w
  same_waits j w lj lw = ap₂ (λ (x : Waiting) (y : ℕ). eqb x.stop y) (h.a_waiter w lw) (same_id j lj)

  pub same_someone : (j : ℕ) → j < s.stops → someone_waits s j ≡ someone_waits t j
  unfolding someone_waits
  same_someone j lj = any_cong (waits_at s j) (waits_at t j) s.waits (λ w lw. same_waits j w lj lw)

  pub same_call : (j : ℕ) → j < s.stops → riderless_call s j ≡ riderless_call t j
  unfolding riderless_call
  same_call j lj =
      any_cong (λ d. eqb (s.demand d).stop (stop_id s j) && (s.demand d).call) (λ d. eqb (demand d).stop (stop_id t j) && (demand d).call)
      s.demands
      (λ d ld. ap₂ (λ (x : Demand) (y : ℕ). eqb x.stop y && x.call) (h.a_demand d ld) (same_id j lj))

  same_ridden : (j : ℕ) → j < s.stops → ridden_to s j ≡ ridden_to t j
  unfolding ridden_to
  same_ridden j lj =
      any_cong (λ d. eqb (s.demand d).stop (stop_id s j) && ltb 0 (s.demand d).riding)
      (λ d. eqb (demand d).stop (stop_id t j) && ltb 0 (demand d).riding)
      s.demands
      (λ d ld. ap₂ (λ (x : Demand) (y : ℕ). eqb x.stop y && ltb 0 x.riding) (h.a_demand d ld) (same_id j lj))

  pub same_demand : (j : ℕ) → j < s.stops → demand_stop s j ≡ demand_stop t j
  unfolding demand_stop has_demand
  same_demand j lj = rw (same_group j, same_someone j lj, same_ridden j lj, same_call j lj)

  -- ---- coverage

  same_serves : (j i : ℕ) → j < s.stops → i < s.cars → serves s j i ≡ serves t j i
  unfolding serves
  same_serves j i lj li = rw ((h.a_car i li).target, (h.a_car i li).phase, same_id j lj)

  same_line_capacity : (j : ℕ) (a : Float) (l : ℕ) → j < s.stops → l < s.lines → line_capacity s j a l ≡ line_capacity t j a l
  unfolding line_capacity
  same_line_capacity j a l lj ll =
      fold_cong
      (λ b i. cond (eqb (s.car i).line (s.line l).id && serves s j i) (plus b (remaining (s.car i))) b)
      (λ b i. cond (eqb (car i).line (line l).id && serves t j i) (plus b (remaining (car i))) b)
      a s.cars
      (λ b i li. rw ((h.a_car i li).line, h.a_line l ll, same_serves j i lj li, same_room (h.a_car i li)))

  same_capacity : (j : ℕ) → j < s.stops → capacity_at s j ≡ capacity_at t j
  unfolding capacity_at
  same_capacity j lj = fold_cong (line_capacity s j) (line_capacity t j) zero s.lines (λ a l ll. same_line_capacity j a l lj ll)

  same_weight : (j : ℕ) → j < s.stops → weight_at s j ≡ weight_at t j
  unfolding weight_at
  same_weight j lj =
      fold_cong (λ a w. cond (waits_at s j w) (plus a (s.waiting w).weight) a) (λ a w. cond (waits_at t j w) (plus a (waiting w).weight) a) zero
      s.waits
      (λ a w lw. ap₂ (λ (b : Bool) (x : Waiting). cond b (plus a x.weight) a) (same_waits j w lj lw) (h.a_waiter w lw))

  same_line_served : (j w : ℕ) → j < s.stops → w < s.waits → line_served s j w ≡ line_served t j w
  unfolding line_served
  same_line_served j w lj lw =
      ap₂ (λ (a b : Bool). a || b) (ap (λ (x : Waiting). eqb x.line 0) (h.a_waiter w lw))
      (any_cong (λ i. serves s j i && eqb (s.car i).line (s.waiting w).line) (λ i. serves t j i && eqb (car i).line (waiting w).line) s.cars
      (λ i li. rw (same_serves j i lj li, (h.a_car i li).line, h.a_waiter w lw)))

  same_by_cars : (j : ℕ) → j < s.stops → covered_by_cars s j ≡ covered_by_cars t j
  unfolding covered_by_cars
  same_by_cars j lj =
      rw (
        any_cong (serves s j) (serves t j) s.cars (λ i li. same_serves j i lj li),
        every_cong (λ w. not (waits_at s j w) || line_served s j w) (λ w. not (waits_at t j w) || line_served t j w) s.waits
            (λ w lw. ap₂ (λ (a b : Bool). not a || b) (same_waits j w lj lw) (same_line_served j w lj lw)),
        same_weight j lj,
        same_capacity j lj,
      )

  same_closed : (j : ℕ) → j < s.stops → closed_at s j ≡ closed_at t j
  unfolding closed_at
  same_closed j lj =
      any_cong (λ x. eqb (s.closed x) (stop_id s j)) (λ x. eqb (closed x) (stop_id t j)) s.closures
      (λ x lx. ap₂ (λ (a b : ℕ). eqb a b) (h.a_closure x lx) (same_id j lj))

  -- ---- pending stops and idle cars

  pub same_idle : (i : ℕ) → i < s.cars → idle s i ≡ idle t i
  unfolding idle
  same_idle i li = (h.a_car i li).listed

  same_bound : (j : ℕ) → j < s.stops → idle_bound s j ≡ idle_bound t j
  unfolding idle_bound
  same_bound j lj =
      any_cong
      (λ a. eqb (s.aboard a).destination (stop_id s j) && any (λ i. idle s i && eqb (s.car i).id (s.aboard a).car) s.cars)
      (λ a. eqb (aboard a).destination (stop_id t j) && any (λ i. idle t i && eqb (car i).id (aboard a).car) s.cars)
      s.aboards
      (λ a la.
      ap₂ (λ (x y : Bool). x && y)
      (ap₂ (λ (x : Aboard) (y : ℕ). eqb x.destination y) (h.a_rider a la) (same_id j lj))
      (any_cong (λ i. idle s i && eqb (s.car i).id (s.aboard a).car) (λ i. idle t i && eqb (car i).id (aboard a).car) s.cars
      (λ i li. rw (same_idle i li, (h.a_car i li).id, h.a_rider a la))))

  pub same_pending : (j : ℕ) → j < s.stops → pending s j ≡ pending t j
  unfolding pending covered
  same_pending j lj = rw (same_closed j lj, same_demand j lj, same_bound j lj, same_by_cars j lj)

  pub same_cars : idle_cars s ≡ idle_cars t
  unfolding idle_cars
  same_cars = count_cong (idle s) (idle t) s.cars same_idle

  pub same_row : (r : ℕ) → row_car s r ≡ row_car t r
  unfolding row_car
  same_row r = nth_cong (idle s) (idle t) s.cars r same_idle

  pub same_stops : pending_stops s ≡ pending_stops t
  unfolding pending_stops
  same_stops = count_cong (pending s) (pending t) s.stops same_pending

  pub same_column : (c : ℕ) → column_stop s c ≡ column_stop t c
  unfolding column_stop
  same_column c = nth_cong (pending s) (pending t) s.stops c same_pending

  pub same_columns : columns s ≡ columns t
  unfolding columns
  same_columns = rw (same_cars, same_stops)
