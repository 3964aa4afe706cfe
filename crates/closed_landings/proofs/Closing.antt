-- What closed landings change. Request F-2: "A new kind 8 names a stop (32 bits) that counts as covered whoever waits there." Assumes nothing.
use Rattle.std.specs.Prelude.{ℕ, ◌≡◌, refl, Bool, true, false, not, ◌&&◌, ◌||◌, cond, eqb}
use Rattle.std.proofs.Common.{ap₂, ◌∙◌, arith, eq-eqb, ne_eqb}
use Rattle.std.proofs.Math.Bool.{and-true, and-false}
use Rattle.laws.specs.Folds.{any, any_next, any_cong}
use Rattle.components.specs.Sheet.{Sheet}
use Rattle.manifest.specs.World.{stop_id, in_group}
use Rattle.manifest.specs.Manifest.{someone_waits, ridden_to, riderless_call, has_demand, demand_stop}
use Rattle.assignment.specs.Pending.{serves, line_capacity, capacity_at, weight_at, line_served, covered_by_cars, closed_at, covered, idle, idle_bound}
use Rattle.assignment.specs.Pending.{pending}
use Rattle.closed_landings.specs.Closing.{pending_open, with_closed}

-- a sheet without kind 8 has its pending stops, the one place where coverage is asked for
pub none_closed : (s : Sheet) → s.closures ≡ 0 → (j : ℕ) → pending s j ≡ pending_open s j
unfolding pending pending_open covered closed_at any
none_closed s e j = rw e

closed_more : (s : Sheet) (id j : ℕ) → closed_at (with_closed s id) j ≡ (closed_at s j || eqb id (stop_id s j))
unfolding closed_at with_closed
closed_more s id j =
    any_next (λ x. eqb (cond (eqb x s.closures) id (s.closed x)) (stop_id s j)) s.closures
    ∙ ap₂ (λ (a b : Bool). a || b)
    (any_cong (λ x. eqb (cond (eqb x s.closures) id (s.closed x)) (stop_id s j)) (λ x. eqb (s.closed x) (stop_id s j)) s.closures
    (λ x l. rw (ne_eqb x s.closures (λ e. absurd (omega arith)))))
    (rw (eq-eqb s.closures s.closures refl))

-- nothing else of it is another
demand_kept : (s : Sheet) (id j : ℕ) → demand_stop (with_closed s id) j ≡ demand_stop s j
unfolding with_closed demand_stop has_demand someone_waits ridden_to riderless_call in_group
demand_kept s id j = refl

bound_kept : (s : Sheet) (id j : ℕ) → idle_bound (with_closed s id) j ≡ idle_bound s j
unfolding with_closed idle_bound idle
bound_kept s id j = refl

cars_kept : (s : Sheet) (id j : ℕ) → covered_by_cars (with_closed s id) j ≡ covered_by_cars s j
unfolding with_closed covered_by_cars serves line_capacity capacity_at weight_at line_served
cars_kept s id j = refl

-- which stops are pending then: those of before, less that one. Request F-6: "closure comes first and no car is sent there"
pub closing_one : (s : Sheet) (id j : ℕ) → pending (with_closed s id) j ≡ (pending s j && not (eqb id (stop_id s j)))
unfolding pending covered
closing_one s id j =
    rw (demand_kept s id j, bound_kept s id j, cars_kept s id j)
    (by (demand_stop s j) (idle_bound s j) (closed_at s j) (covered_by_cars s j) (eqb id (stop_id s j)) (closed_more s id j))
  where
    by : (d b k c e : Bool) {k' : Bool} → k' ≡ (k || e)
        → (not k' && (d && (b || not (k' || c)))) ≡ ((not k && (d && (b || not (k || c)))) && not e)
    by d b true c e {k'} q = rw q
    by d b false c true {k'} q = rw (q, and-false)
    by d b false c false {k'} q = rw (q, and-true)
