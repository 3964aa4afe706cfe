-- The pairs ranked are the kept ones. Request F-7: "a kept pair counting as ranked whether useful or not". A limit keeps the smaller of itself and the
-- viable stops of a car, since distance and then id put the stops of an accepted sheet in one order. And they are within document 01's bound. Assumes
-- nothing.
use Rattle.std.specs.Prelude.{Ok}
use Prim.Native.Nat.{ℕ, ◌*◌, ◌≤◌, ◌<◌, min}
use Rattle.std.specs.Prelude.{◌≡◌, true, false, not, ◌&&◌, cond, List, ◌⊎◌, ◌≢◌, eqb, Float}
use Rattle.std.proofs.Common.{sym, ◌∙◌, arith, eq-eqb, ne_eqb, ltb-true, lt-ltb, le-ltb}
use Rattle.std.proofs.Math.Path.{ap}
use Rattle.std.proofs.Math.Bool.{Bool, and-true}
use Rattle.std.proofs.Math.Logic.{inl, inr, ⊎_elim}
use Rattle.std.proofs.Math.Dec.{ltb}
use Rattle.std.specs.Float.Ieee.{lt}
use Rattle.std.proofs.lemmas.Bool.{not-true}
use Rattle.laws.specs.Bools.{which, same?, less?, both, both_left, both_right, either, either_left, either_right}
use Rattle.laws.specs.Folds.{count, count_cong, count-le, nth_is}
use Rattle.laws.specs.Counts.{count_mono, Order, first_few}
use Rattle.laws.specs.Sums.{sum, sum_cong, sum-le}
use Rattle.fp.specs.Num as Num
use Rattle.fp.specs.Order.{real, le_tells, lt_self, lt_trans, lt_le_trans, le_lt_trans, le_through}
use Rattle.layout.specs.declared.Counts.{Counts}
use Rattle.layout.specs.Records.{sheet_of}
use Rattle.layout.specs.Verdict.{verdict}
use Rattle.accepted.specs.Accepted.{accepted}
use Rattle.components.specs.Points.{distance, is_placed, distance_nonneg}
use Rattle.components.specs.Sheet.{Sheet}
use Rattle.manifest.specs.World.{stop_id, stop_at}
use Rattle.assignment.specs.Pending.{pending, idle, idle_cars, row_car, pending_stops}
use Rattle.assignment.specs.Candidates.{no_limit, keeps, precedes, viable, viable_stops, away, nearer, kept, kept_of, nearer_of}
use Rattle.assignment.specs.Cells.{ranked_pairs}
use Rattle.assignment.proofs.CellLaws.{viable_parts}

-- ---- distance and then id is an order, of distances that are no NaN

-- the nearer of two comes first
by_distance : (x : Float) (a : ℕ) (y : Float) (b : ℕ) → lt x y ≡ true → precedes x a y b ≡ true
unfolding precedes
by_distance x a y b e = either_left (lt x y) (not (lt y x) && ltb a b) e

-- and of two where the second is not nearer, the lower id
by_id : (x : Float) (a : ℕ) (y : Float) (b : ℕ) → lt y x ≡ false → a < b → precedes x a y b ≡ true
unfolding precedes
by_id x a y b e l = either_right (lt x y) (not (lt y x) && ltb a b) (rw (e, lt-ltb a b l))

tells : (x : Float) (a : ℕ) (y : Float) (b : ℕ) → precedes x a y b ≡ true → (lt x y ≡ true) ⊎ ((lt y x ≡ false) × (a < b))
unfolding precedes
tells x a y b e =
    ⊎_elim
    (λ (h : lt x y ≡ true). inl h)
    (λ (h : (not (lt y x) && ltb a b) ≡ true). inr
    (not-true (lt y x) (both_left (not (lt y x)) (ltb a b) h), ltb-true a b (both_right (not (lt y x)) (ltb a b) h)))
    (either (lt x y) (not (lt y x) && ltb a b) e)

pub precedes_self : (x : Float) (a : ℕ) → precedes x a x a ≡ false
unfolding precedes
precedes_self x a = rw (lt_self x, le-ltb a a (omega arith))

pub precedes_trans : (x : Float) (a : ℕ) (y : Float) (b : ℕ) (z : Float) (c : ℕ) → real x ≡ true → real y ≡ true → real z ≡ true
    → precedes x a y b ≡ true → precedes y b z c ≡ true → precedes x a z c ≡ true
precedes_trans x a y b z c rx ry rz e f =
    ⊎_elim
    (λ (h : lt x y ≡ true).
    ⊎_elim
    (λ (g : lt y z ≡ true). by_distance x a z c (lt_trans x y z h g))
    (λ (g : (lt z y ≡ false) × (b < c)). by_distance x a z c (lt_le_trans x y z rz h g.0))
    (tells y b z c f))
    (λ (h : (lt y x ≡ false) × (a < b)).
    ⊎_elim
    (λ (g : lt y z ≡ true). by_distance x a z c (le_lt_trans x y z rx h.0 g))
    (λ (g : (lt z y ≡ false) × (b < c)). by_id x a z c (le_through x y z ry h.0 g.0) (omega (arith, h.1, g.1)))
    (tells y b z c f))
    (tells x a y b e)

pub precedes_either : (x : Float) (a : ℕ) (y : Float) (b : ℕ) → a ≢ b → (precedes x a y b ≡ true) ⊎ (precedes y b x a ≡ true)
precedes_either x a y b ne =
    ⊎_elim
    (λ (h : lt x y ≡ true). inl (by_distance x a y b h))
    (λ (h : lt x y ≡ false).
    ⊎_elim
    (λ (g : lt y x ≡ true). inr (by_distance y b x a g))
    (λ (g : lt y x ≡ false).
    ⊎_elim (λ (l : a < b). inl (by_id x a y b g l)) (λ (l : b ≤ a). inr (by_id y b x a h (omega arith))) (less? a b))
    (which (lt y x)))
    (which (lt x y))

-- ---- what a limit keeps of a car's viable stops

module _ (s : Sheet) (i : ℕ) (here : is_placed (s.car i).position ≡ true) (there : (j : ℕ) → j < s.stops → is_placed (stop_at s j) ≡ true)
    (rising : (a b : ℕ) → a < b → b < s.stops → stop_id s a < stop_id s b) where
  -- the viable stop k comes before stop j
  before : ℕ → ℕ → Bool
  before j k = viable s i k && precedes (away s i k) (stop_id s k) (away s i j) (stop_id s j)

  away_real : (j : ℕ) → j < s.stops → real (away s i j) ≡ true
  away_real j l =
      let (a, b, c) = le_tells Num.zero (distance (s.car i).position (stop_at s j))
      (distance_nonneg (s.car i).position (stop_at s j) here (there j l)) in
      b

  apart : (j k : ℕ) → j < s.stops → k < s.stops → (j ≡ k → ⊥) → stop_id s j ≢ stop_id s k
  apart j k lj lk ne e =
      ⊎_elim
      (λ (l : j < k). absurd (omega (arith, rising j k l lk)))
      (λ (l : k ≤ j). ⊎_elim (λ (q : j ≡ k). ne q) (λ q. absurd (let m : k < j = omega arith in omega (arith, rising k j m lj))) (same? j k))
      (less? j k)

  in_order : Order (viable s i) before s.stops
  unfolding before
  in_order =
      record {
        self = λ j l v. rw (v, precedes_self (away s i j) (stop_id s j));
        steps = λ a k j la lk lj vk vj e f.
            let t : ℕ → ℕ → Bool = λ x y. precedes (away s i x) (stop_id s x) (away s i y) (stop_id s y) in
            both (both_left (viable s i a) (t a k) e)
            (precedes_trans (away s i a) (stop_id s a) (away s i k) (stop_id s k) (away s i j) (stop_id s j)
            (away_real a la) (away_real k lk) (away_real j lj)
            (both_right (viable s i a) (t a k) e) (both_right (viable s i k) (t k j) f));
        either = λ j k lj lk vj vk ne.
            ⊎_elim
            (λ (h : precedes (away s i k) (stop_id s k) (away s i j) (stop_id s j) ≡ true). inl (both vk h))
            (λ (h : precedes (away s i j) (stop_id s j) (away s i k) (stop_id s k) ≡ true). inr (both vj h))
            (precedes_either (away s i k) (stop_id s k) (away s i j) (stop_id s j) (apart k j lk lj (λ q. ne (sym q))));
        within = λ j k lj lk e. both_left (viable s i k) (precedes (away s i k) (stop_id s k) (away s i j) (stop_id s j)) e;
      }

  -- of the viable stops, as viable_stops counts them
  kept_viable : (limit : ℕ) → limit ≢ no_limit → count (kept s i limit) s.stops ≡ min limit (viable_stops s i)
  unfolding kept_of keeps nearer_of before viable_stops
  kept_viable limit ne =
      count_cong (kept s i limit) (λ j. viable s i j && ltb (count (before j) s.stops) limit) s.stops (λ j l. rw (ne_eqb limit no_limit ne))
      ∙ first_few (viable s i) before s.stops in_order limit

  -- exactly so many
  pub kept_few : (limit : ℕ) → limit ≢ no_limit → count (kept s i limit) s.stops ≡ min limit (count (viable s i) s.stops)
  unfolding viable_stops
  kept_few limit ne = kept_viable limit ne

-- ---- of an accepted sheet

row_below : (s : Sheet) (r : ℕ) → r < idle_cars s → row_car s r < s.cars
unfolding idle_cars row_car
row_below s r l = (nth_is (idle s) s.cars r l).below

-- with no limit every viable stop is kept
kept_all : (s : Sheet) (i : ℕ) → count (kept s i no_limit) s.stops ≡ viable_stops s i
unfolding kept_of keeps viable_stops
kept_all s i = count_cong (kept s i no_limit) (viable s i) s.stops (λ j l. and-true (viable s i j))

unlimited : (limit v : ℕ) → limit ≡ no_limit → v ≤ 64 → v ≡ min limit v
unlimited limit v q l = omega arith

module _ (bytes : List ℕ) (c : Counts) (e : verdict bytes ≡ Ok c) (limit : ℕ) where
  -- an idle car keeps the smaller of the limit and its viable stops
  pub kept_number : (r : ℕ) → r < idle_cars (sheet_of bytes c)
      → count (kept (sheet_of bytes c) (row_car (sheet_of bytes c) r) limit) (sheet_of bytes c).stops
      ≡ min limit (viable_stops (sheet_of bytes c) (row_car (sheet_of bytes c) r))
  unfolding viable_stops
  kept_number r l =
      let s = sheet_of bytes c in
      let i = row_car s r in
      let sound = (accepted bytes c e).sheet in
      ⊎_elim
      (λ (q : limit ≡ no_limit).
      ap (λ (k : ℕ). count (kept s i k) s.stops) q ∙ kept_all s i
      ∙ unlimited limit (viable_stops s i) q (omega (arith, count-le (viable s i) s.stops, sound.most_stops)))
      (λ (q : limit ≢ no_limit).
      kept_viable s i (sound.car i (row_below s r l)).position (λ j lj. (sound.stop j lj).position) sound.rising limit q)
      (same? limit no_limit)

  -- the ranked pairs are the kept ones
  pub ranked_kept : sum (idle_cars (sheet_of bytes c)) (λ r. count (kept (sheet_of bytes c) (row_car (sheet_of bytes c) r) limit) (sheet_of bytes c).stops)
      ≡ ranked_pairs (sheet_of bytes c) limit
  unfolding ranked_pairs
  ranked_kept =
      sum_cong (idle_cars (sheet_of bytes c))
      {f = λ r. count (kept (sheet_of bytes c) (row_car (sheet_of bytes c) r) limit) (sheet_of bytes c).stops}
      {g = λ r. min limit (viable_stops (sheet_of bytes c) (row_car (sheet_of bytes c) r))} kept_number

-- ---- document 01's bound, of any sheet

-- "at most n × limit (n × m with none)"
unfoldable pub ranked_most : Sheet → ℕ → ℕ
ranked_most s limit = idle_cars s * cond (eqb limit no_limit) (pending_stops s) limit

viable_pending : (s : Sheet) (i : ℕ) → viable_stops s i ≤ pending_stops s
unfolding viable_stops pending_stops
viable_pending s i = count_mono (viable s i) (pending s) s.stops (λ j l h. (viable_parts s i j h).0)

pub ranked_most_lem : (s : Sheet) (limit : ℕ) → ranked_pairs s limit ≤ ranked_most s limit
unfolding ranked_pairs ranked_most
ranked_most_lem s limit =
    ⊎_elim
    (λ (q : limit ≡ no_limit).
    rw (eq-eqb limit no_limit q)
    (sum-le (idle_cars s) (pending_stops s) {f = λ r. min limit (viable_stops s (row_car s r))}
    (λ r l. omega (arith, viable_pending s (row_car s r)))))
    (λ (q : limit ≢ no_limit).
    rw (ne_eqb limit no_limit q) (sum-le (idle_cars s) limit {f = λ r. min limit (viable_stops s (row_car s r))} (λ r l. omega arith)))
    (same? limit no_limit)
