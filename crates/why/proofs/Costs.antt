-- What a reason says of the cell: without one, the last term is the rank's cost, bit for bit, and the cell is it, scaled; with one, the cell is the
-- sentinel. Assumes nothing.
use Rattle.std.specs.Prelude.{None, Option, Some}
use Rattle.std.specs.Prelude.{ℕ, ◌+◌, Bool, ◌&&◌, ◌≢◌, eqb, Float}
use Rattle.std.proofs.Math.Path.{◌≡◌, refl, ap}
use Rattle.std.proofs.Common.{sym, ◌∙◌, arith}
use Rattle.std.proofs.Math.Bool.{true, false, not, cond}
use Rattle.std.proofs.Math.Logic.{⊎_elim}
use Rattle.std.specs.Float.Ieee.{lt, le}
use borrow.Author.Tests.{eqb-true, not-true}
use Rattle.laws.specs.Bools.{which, both_left, both_right}
use Rattle.fp.specs.Num as num
use Rattle.scale.specs.Scale.{sentinel, scale_cost}
use Rattle.components.specs.declared.Strategy.{Strategy}
use Rattle.components.specs.declared.Strategy.TheVariants.{Etd, Rsr, Scan, Unknown}
use Rattle.components.specs.Points.{distance}
use Rattle.components.specs.Sheet.{Sheet}
use Rattle.manifest.specs.World.{stop_at}
use Rattle.sweep.specs.Sweeps.{accepts, sweep_rank}
use Rattle.scan.specs.Scan.{rank_of, scan_rank}
use Rattle.dispatch.specs.FiniteRank.{finite_rank, ranked}
use Rattle.dispatch.specs.Useful.{obstacle, pair_is_useful, useful_obstacle}
use Rattle.etd.specs.Etd.{etd_terms, etd_rank, fair_cost}
use Rattle.rsr.specs.Rsr.{rsr_terms, rsr_terms_of, rsr_rank, rsr_cost}
use Rattle.assignment.specs.Pending.{idle, pending}
use Rattle.assignment.specs.Candidates.{line_serves, barred, viable_of, kept_of, kept}
use Rattle.assignment.specs.Cells.{by_strategy, rank_cell, sweep_after, rank, cell}
use Rattle.why.specs.Why.{first_reason, rank_reason, asks_path, etd_slots, rsr_slots, scan_slots, terms_of, reason_of}

-- ---- the last term is the cost

-- a rank that a test gives
given : (b : Bool) (d x : Float) → cond b (Some d) None ≡ Some x → d ≡ x
given true d x h = cc
given false d x h = let z : ◌≡◌ {A = ℕ} 0 1 = cc in absurd (omega arith)

module _ (s : Sheet) (i j : ℕ) (x : Float) where
  etd_cost : etd_rank s i j ≡ Some x → (etd_terms s i j).cost ≡ x
  unfolding etd_rank etd_terms
  etd_cost h = (ranked (pair_is_useful s i j false && lt num.zero (s.car i).speed) (fair_cost s i j) x h).0

  rsr_cost_lem : rsr_rank s i j ≡ Some x → (rsr_terms s i j).cost ≡ x
  unfolding rsr_rank rsr_terms_of
  rsr_cost_lem h = (ranked (pair_is_useful s i j true && not (le (s.car i).speed num.zero)) (rsr_cost s i j) x h).0

  scan_cost : scan_rank s (sweep_after s i) i j ≡ Some x → distance (s.car i).position (stop_at s j) ≡ x
  unfolding scan_rank rank_of sweep_rank
  scan_cost h =
      by (pair_is_useful s i j false)
      (accepts (sweep_after s i).mode (sweep_after s i).direction (s.car i).position.along (stop_at s j).along) h
    where
      by : (u a : Bool) → cond u (cond a (Some (distance (s.car i).position (stop_at s j))) None) None ≡ Some x
          → distance (s.car i).position (stop_at s j) ≡ x
      by true a h = given a (distance (s.car i).position (stop_at s j)) x h
      by false a h = let z : ◌≡◌ {A = ℕ} 0 1 = cc in absurd (omega arith)

  -- "their sum is the cell's cost bit for bit"
  pub last_is_cost : rank s i j ≡ Some x → (terms_of s i j).t7 ≡ x
  unfolding rank terms_of
  last_is_cost h = by s.policy.strategy h
    where
      by : (t : Strategy) → by_strategy t (etd_rank s i j) (rsr_rank s i j) (scan_rank s (sweep_after s i) i j) None ≡ Some x
          → (by_strategy t (etd_slots (etd_terms s i j)) (rsr_slots (rsr_terms s i j)) (scan_slots (distance (s.car i).position (stop_at s j)))
          (scan_slots num.zero)).t7 ≡ x
      by Etd h = etd_cost h
      by Rsr h = rsr_cost_lem h
      by Scan h = scan_cost h
      by Unknown h = let z : ◌≡◌ {A = ℕ} 0 1 = cc in absurd (omega arith)

-- ---- a rank is of a useful pair

first_test : (a b : Bool) (c x : Float) → cond (a && b) (finite_rank c) None ≡ Some x → a ≡ true
first_test true b c x h = refl
first_test false b c x h = let z : ◌≡◌ {A = ℕ} 0 1 = cc in absurd (omega arith)

scan_test : (a : Bool) (r : Option Float) (x : Float) → cond a r None ≡ Some x → a ≡ true
scan_test true r x h = refl
scan_test false r x h = let z : ◌≡◌ {A = ℕ} 0 1 = cc in absurd (omega arith)

module _ (s : Sheet) (i j : ℕ) (x : Float) where
  useful : rank s i j ≡ Some x → pair_is_useful s i j (asks_path s.policy.strategy) ≡ true
  unfolding rank etd_rank rsr_rank scan_rank rank_of
  useful h = by s.policy.strategy h
    where
      by : (t : Strategy) → by_strategy t (etd_rank s i j) (rsr_rank s i j) (scan_rank s (sweep_after s i) i j) None ≡ Some x
          → pair_is_useful s i j (asks_path t) ≡ true
      by Etd h = first_test (pair_is_useful s i j false) (lt num.zero (s.car i).speed) (fair_cost s i j) x h
      by Rsr h = first_test (pair_is_useful s i j true) (not (le (s.car i).speed num.zero)) (rsr_cost s i j) x h
      by Scan h = scan_test (pair_is_useful s i j false) (sweep_rank (sweep_after s i) (s.car i).position (stop_at s j)) x h
      by Unknown h = let z : ◌≡◌ {A = ℕ} 0 1 = cc in absurd (omega arith)

  nothing_against : rank s i j ≡ Some x → obstacle s i j (asks_path s.policy.strategy) ≡ 0
  nothing_against h =
      eqb-true (obstacle s i j (asks_path s.policy.strategy)) 0
      (sym (useful_obstacle s i j (asks_path s.policy.strategy)) ∙ useful h)

-- ---- the reason

-- no reason: every test was passed, and there is a rank
passed : (listed waits served shut near : Bool) (o : ℕ) (r : Option Float) → first_reason listed waits served shut near (rank_reason o r) ≡ 0
    → (near ≡ true) × (x : Float) × (r ≡ Some x)
passed true true true false true o None h = absurd (by (eqb o 0) h)
  where
    by : (b : Bool) → cond b 12 (7 + o) ≡ 0 → ⊥
    by true h = absurd (omega arith)
    by false h = absurd (omega arith)
passed true true true false true o (Some x) h = (refl, x, refl)
passed true true true false false o r h = absurd (omega arith)
passed true true true true near o r h = absurd (omega arith)
passed true true false shut near o r h = absurd (omega arith)
passed true false served shut near o r h = absurd (omega arith)
passed false waits served shut near o r h = absurd (omega arith)

module _ (s : Sheet) (limit i j : ℕ) where
  -- without a reason the cell is the cost, scaled
  pub cost_of_cell : reason_of s limit i j ≡ 0 → cell s limit i j ≡ scale_cost (terms_of s i j).t7
  unfolding reason_of cell
  cost_of_cell h =
      let (near, x, e) = passed (idle s i) (pending s j) (line_serves s i j) (barred s i j) (kept s i limit j)
      (obstacle s i j (asks_path s.policy.strategy)) (rank s i j) h in
      rw (near, e) (ap scale_cost (sym (last_is_cost s i j x e)))

  -- a pair that is kept has passed every test before its rank
  tests : kept s i limit j ≡ true → (pending s j ≡ true) × (line_serves s i j ≡ true) × (barred s i j ≡ false)
  unfolding kept_of viable_of
  tests k =
      let v : viable_of s (s.car i) j ≡ true = both_left _ _ k in
      let q = both_right (pending s j) _ v in
      (both_left _ _ v, both_right (not (barred s i j)) _ q, not-true _ (both_left _ _ q))

  kept_reason : idle s i ≡ true → kept s i limit j ≡ true
      → reason_of s limit i j ≡ rank_reason (obstacle s i j (asks_path s.policy.strategy)) (rank s i j)
  unfolding reason_of
  kept_reason e k = let t = tests k in rw (e, t.0, t.1, t.2, k)

  -- with one the cell of an idle car is the sentinel
  pub sentinel_of_cell : idle s i ≡ true → reason_of s limit i j ≢ 0 → cell s limit i j ≡ sentinel
  unfolding cell
  sentinel_of_cell e ne =
      ⊎_elim
      (λ (k : kept s i limit j ≡ true). rw k (by (rank s i j) refl k))
      (λ (k : kept s i limit j ≡ false). rw k)
      (which (kept s i limit j))
    where
      by : (r : Option Float) → rank s i j ≡ r → kept s i limit j ≡ true → rank_cell r ≡ sentinel
      by None h k = refl
      by (Some x) h k =
          absurd (ne (kept_reason e k ∙ ap (rank_reason (obstacle s i j (asks_path s.policy.strategy))) h
          ∙ ap (λ (o : ℕ). rank_reason o (Some x)) (nothing_against s i j x h)))
