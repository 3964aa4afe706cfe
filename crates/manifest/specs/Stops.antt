-- Stops by two lists, n ids and 128 coordinates: of stop j the first is element j, the second element 64 + j. What the code looks up. Assumes
-- nothing.
use Rattle.std.specs.Prelude.{None, Option, Some}
use Rattle.std.specs.Prelude.{ℕ, zero, suc, ◌+◌, ◌-◌, ◌*◌, ◌/◌, ◌≤◌, ◌<◌, ◌≡◌, refl, Bool, false, cond, ◌&&◌, List, ◌≢◌, ltb, drop, Float}
use Rattle.std.proofs.Common.{mul-zero, mul-one, arith, ◌∙◌, ⊎_elim, get_or-drop}
use Rattle.std.proofs.Math.Path.{sym, ap, ap₂}
use Rattle.std.proofs.Math.Bool.{true}
use Rattle.std.proofs.Math.Dec.{eqb}
use Rattle.std.proofs.Math.ListN.{get_or, length}
use Rattle.std.specs.Float.{nan}
use borrow.Author.Tests.{lt-ltb, le-ltb, eq-eqb, ne_eqb, eqb-true, ltb-true}
use Rattle.laws.specs.Bools.{same_test, less?, both, both_left, both_right}
use Rattle.laws.specs.Folds.{none_any, lookup, lookup_cong, lookup_at, lookup_none}
use Rattle.mask.specs.Mask.{has}
use Rattle.components.specs.declared.Point.{Point}
use Rattle.components.specs.declared.Phase.{Phase}
use Rattle.components.specs.declared.Phase.TheVariants.{Idle, MovingToStop, Repositioning, DoorOpening, Loading, DoorClosing, Stopped, Unknown}
use Rattle.components.specs.Points.{point_of}
use Rattle.components.specs.Sheet.{Sheet}
use Rattle.manifest.specs.World.{stop_id, stop_at, stop_position, goal, goal_of}
use Rattle.manifest.specs.Manifest.{demand_stop}
use Rattle.manifest.specs.Rising.{Rising, one_place}

-- the index of the stop with this id, n where there is none
unfoldable pub stop_index : List ℕ → ℕ → ℕ → ℕ
stop_index ids n id = lookup (λ j. eqb (get_or ids j 0) id) (λ j. j) n n

-- the ids of the first n stops rise
pub record Ascending (ids : List ℕ) (n : ℕ) : Type 0 where
  pub rising : (a b : ℕ) → a < b → b < n → get_or ids a 0 < get_or ids b 0

-- n stops by two lists: their ids, which rise, and their coordinates
abbrev pub AtHand : List ℕ → List Float → ℕ → Type 0
AtHand ids xs n = (n ≤ length ids) × Ascending ids n × (64 + n ≤ length xs)

-- the index that a look-up gives is one that passes, or none does
passes : (p : ℕ → Bool) (n k : ℕ) → k ≤ n → lookup p (λ j. j) n k < n → p (lookup p (λ j. j) n k) ≡ true
unfolding lookup
passes p n zero l h = absurd (omega arith)
passes p n (suc k) l h = by (p k) refl h (passes p n k (omega arith))
  where
    by : (b : Bool) → p k ≡ b → cond b k (lookup p (λ j. j) n k) < n → (lookup p (λ j. j) n k < n → p (lookup p (λ j. j) n k) ≡ true)
        → p (cond b k (lookup p (λ j. j) n k)) ≡ true
    by true e q f = e
    by false e q f = f q

-- an index below n has the id
pub index_has : (ids : List ℕ) (n id : ℕ) → stop_index ids n id < n → get_or ids (stop_index ids n id) 0 ≡ id
unfolding stop_index
index_has ids n id l = eqb-true (get_or ids (stop_index ids n id) 0) id (passes (λ j. eqb (get_or ids j 0) id) n n (omega arith) l)

module _ (ids : List ℕ) (n : ℕ) (h : Ascending ids n) where
  -- the stop that has the id is the one of its index
  pub index_at : (j id : ℕ) → j < n → get_or ids j 0 ≡ id → stop_index ids n id ≡ j
  unfolding stop_index
  index_at j id l e =
      lookup_at (λ k. eqb (get_or ids k 0) id) (λ k. k) n n j l (eq-eqb (get_or ids j 0) id e)
      (λ k lk t. one_place (λ i. get_or ids i 0) n h.rising k j lk l (eqb-true (get_or ids k 0) id t ∙ sym e))

-- of numbers below 2^32, the bit that b - a borrows is 0 exactly where b is below a
pub borrowed : (half a b : ℕ) → a < 4294967296 → b < 4294967296 → half * ((b + 4294967296 - a) / 4294967296) ≡ cond (ltb b a) 0 half
borrowed half a b la lb =
    ⊎_elim
    (λ (x : b < a).
    let e : (b + 4294967296 - a) / 4294967296 ≡ 0 = omega arith in rw (e, lt-ltb b a x, mul-zero half) refl)
    (λ (x : a ≤ b).
    let e : (b + 4294967296 - a) / 4294967296 ≡ 1 = omega arith in rw (e, le-ltb b a x, mul-one half) refl)
    (less? b a)

pub borrowed_le : (half a b : ℕ) → a < 4294967296 → b < 4294967296 → half * ((b + 4294967296 - a) / 4294967296) ≤ half
borrowed_le half a b la lb = rw (borrowed half a b la lb) (by (ltb b a))
  where
    by : (c : Bool) → cond c 0 half ≤ half
    by true = omega arith
    by false = omega arith

-- a search by halves: a stop with the id is among the size stops from base on
pub record Narrowed (ids : List ℕ) (n id base size : ℕ) : Type 0 where
  pub within : base + size ≤ n
  pub from : (j : ℕ) → j < n → get_or ids j 0 ≡ id → base ≤ j
  pub below : (j : ℕ) → j < n → get_or ids j 0 ≡ id → j < base + size

module _ (ids : List ℕ) (n id : ℕ) where
  pub search_start : Narrowed ids n id 0 n
  search_start = record { within = omega arith; from = λ j l e. omega arith; below = λ j l e. omega arith }

  -- the stop in the middle, or one after it
  search_later : Ascending ids n → (base size : ℕ) → Narrowed ids n id base size → 1 < size → get_or ids (base + size / 2) 0 ≤ id
      → Narrowed ids n id (base + size / 2) (size - size / 2)
  search_later h base size m l le =
      record {
        within = omega (arith, m.within);
        from = λ j lj e.
            ⊎_elim
            (λ (x : j < base + size / 2). absurd (omega (arith, h.rising j (base + size / 2) x (omega (arith, m.within)))))
            (λ (x : base + size / 2 ≤ j). x)
            (less? j (base + size / 2));
        below = λ j lj e. omega (arith, m.below j lj e);
      }

  -- a stop before it
  search_earlier : Ascending ids n → (base size : ℕ) → Narrowed ids n id base size → 1 < size → id < get_or ids (base + size / 2) 0
      → Narrowed ids n id base (size - size / 2)
  search_earlier h base size m l gt =
      record {
        within = omega (arith, m.within);
        from = m.from;
        below = λ j lj e.
            ⊎_elim
            (λ (x : j < base + size / 2). omega arith)
            (λ (x : base + size / 2 ≤ j). ⊎_elim
            (λ (y : base + size / 2 < j). absurd (omega (arith, h.rising (base + size / 2) j y lj)))
            (λ (y : j ≤ base + size / 2). let q : base + size / 2 ≡ j = omega arith in absurd (omega (arith, ap (λ (z : ℕ). get_or ids z 0) q)))
            (less? (base + size / 2) j))
            (less? j (base + size / 2));
      }

  -- a turn: so far on from base
  pub search_on : Ascending ids n → (base size : ℕ) {r : ℕ} → Narrowed ids n id base size → 1 < size
      → r ≡ cond (ltb id (get_or ids (base + size / 2) 0)) 0 (size / 2) → Narrowed ids n id (base + r) (size - size / 2)
  search_on h base size {r} m l e =
      ⊎_elim
      (λ (x : id < get_or ids (base + size / 2) 0).
      let z : r ≡ 0 = rw (lt-ltb id (get_or ids (base + size / 2) 0) x) at e in
      let q : base + r ≡ base = omega arith in rw q (search_earlier h base size m l x))
      (λ (x : get_or ids (base + size / 2) 0 ≤ id).
      let z : r ≡ size / 2 = rw (le-ltb id (get_or ids (base + size / 2) 0) x) at e in
      rw z (search_later h base size m l x))
      (less? id (get_or ids (base + size / 2) 0))

  -- one stop is left, which has another id
  pub search_none : (base size : ℕ) → Narrowed ids n id base size → size ≤ 1 → (base < n → get_or ids base 0 ≢ id) → n ≡ stop_index ids n id
  unfolding stop_index
  search_none base size m l ne =
      sym (lookup_none (λ j. eqb (get_or ids j 0) id) (λ j. j) n n (none_any (λ j. eqb (get_or ids j 0) id) n
      (λ j lj. ne_eqb (get_or ids j 0) id (λ e.
      let q : base ≡ j = omega (arith, m.from j lj e, m.below j lj e) in absurd (ne (omega arith) (ap (λ (z : ℕ). get_or ids z 0) q ∙ e))))))

-- the point of stop j
unfoldable pub point_in : List Float → ℕ → Point
point_in xs j = point_of (get_or xs j nan) (get_or xs (64 + j) nan)

-- the second coordinates
abbrev pub sides_of : List Float → List Float
sides_of xs = drop 64 xs

pub side_of : (xs : List Float) (j : ℕ) → get_or (sides_of xs) j nan ≡ get_or xs (64 + j) nan
side_of xs j = get_or-drop 64 xs j nan

-- where the stop of an index stands
unfoldable pub place_at : List Float → ℕ → ℕ → Option Point
place_at xs n j = cond (ltb j n) (Some (point_in xs j)) None

-- stop_position
unfoldable pub position_in : List ℕ → List Float → ℕ → ℕ → Option Point
position_in ids xs n id = place_at xs n (stop_index ids n id)

-- ---- lists that hold a sheet's stops

pub record HoldsStops (s : Sheet) (ids : List ℕ) (xs : List Float) (n : ℕ) : Type 0 where
  pub counted : n ≡ s.stops
  pub id_of : (j : ℕ) → j < n → get_or ids j 0 ≡ stop_id s j
  pub at : (j : ℕ) → j < n → get_or xs j nan ≡ (stop_at s j).along
  pub side : (j : ℕ) → j < n → get_or xs (64 + j) nan ≡ (stop_at s j).across

-- a mask that holds the demand stops of the group
pub record HoldsDemand (s : Sheet) (mask n : ℕ) : Type 0 where
  pub is_demand : (j : ℕ) → j < n → has mask j ≡ demand_stop s j

-- one id, one stop: "stop .. id, rising"
pub record DistinctStops (s : Sheet) : Type 0 where
  pub same : (a b : ℕ) → a < s.stops → b < s.stops → stop_id s a ≡ stop_id s b → a ≡ b

-- the place of the index that a look-up gives is the place that it gives
found : (p : ℕ → Bool) (xs : List Float) (n k : ℕ) → k ≤ n
    → place_at xs n (lookup p (λ j. j) n k) ≡ lookup p (λ j. Some (point_in xs j)) None k
unfolding lookup place_at
found p xs n zero l = rw (le-ltb n n (omega arith))
found p xs n (suc k) l = by (p k) (found p xs n k (omega arith))
  where
    by : (b : Bool) → place_at xs n (lookup p (λ j. j) n k) ≡ lookup p (λ j. Some (point_in xs j)) None k
        → place_at xs n (cond b k (lookup p (λ j. j) n k)) ≡ cond b (Some (point_in xs k)) (lookup p (λ j. Some (point_in xs j)) None k)
    by true h = rw (lt-ltb k n (omega arith))
    by false h = h

module _ (s : Sheet) (ids : List ℕ) (xs : List Float) (n : ℕ) (h : HoldsStops s ids xs n) where
  pub point_is : (j : ℕ) → j < n → point_in xs j ≡ stop_at s j
  unfolding point_in
  point_is j l = ap₂ point_of (h.at j l) (h.side j l)

  -- the place by the lists is the sheet's
  pub position_is : (id : ℕ) → position_in ids xs n id ≡ stop_position s id
  unfolding position_in stop_index stop_position point_in
  position_is id =
      found (λ j. eqb (get_or ids j 0) id) xs n n (omega arith)
      ∙ lookup_cong (λ j. eqb (get_or ids j 0) id) (λ j. eqb (stop_id s j) id) (λ j. Some (point_in xs j)) (λ j. Some (stop_at s j)) None n
      (λ k l. ap (λ (z : ℕ). eqb z id) (h.id_of k l)) (λ k l. ap Some (ap₂ point_of (h.at k l) (h.side k l)))
      ∙ ap (λ (z : ℕ). lookup (λ j. eqb (stop_id s j) id) (λ j. Some (stop_at s j)) None z) h.counted

  -- the ids rise where the sheet's do
  pub ascending : Rising s → Ascending ids n
  ascending r =
      record {
        rising = λ a b l lb.
            let e = h.counted in
            let up = r.rising a b l (omega arith) in
            omega (arith, up, h.id_of a (omega arith), h.id_of b lb);
      }

  pub goal_is : (i : ℕ) → goal_of (position_in ids xs n) (s.car i).phase ≡ goal s i
  unfolding goal position_in stop_index stop_position point_in
  goal_is i = goal_of_cong (position_in ids xs n) (stop_position s) same (s.car i).phase
    where
      same : (id : ℕ) → position_in ids xs n id ≡ stop_position s id
      same id =
          found (λ j. eqb (get_or ids j 0) id) xs n n (omega arith)
          ∙ lookup_cong (λ j. eqb (get_or ids j 0) id) (λ j. eqb (stop_id s j) id) (λ j. Some (point_in xs j)) (λ j. Some (stop_at s j)) None n
          (λ k l. ap (λ (z : ℕ). eqb z id) (h.id_of k l)) (λ k l. ap Some (ap₂ point_of (h.at k l) (h.side k l)))
          ∙ ap (λ (z : ℕ). lookup (λ j. eqb (stop_id s j) id) (λ j. Some (stop_at s j)) None z) h.counted

      goal_of_cong : (f g : ℕ → Option Point) → ((id : ℕ) → f id ≡ g id) → (p : Phase) → goal_of f p ≡ goal_of g p
      goal_of_cong f g h Idle = refl
      goal_of_cong f g h (MovingToStop id) = h id
      goal_of_cong f g h (Repositioning id) = h id
      goal_of_cong f g h DoorOpening = refl
      goal_of_cong f g h Loading = refl
      goal_of_cong f g h DoorClosing = refl
      goal_of_cong f g h Stopped = refl
      goal_of_cong f g h Unknown = refl

  -- where ids are distinct, an id's index is j exactly where the id is stop j's
  pub index_is : DistinctStops s → (j id : ℕ) → j < n → (ltb (stop_index ids n id) n && eqb j (stop_index ids n id)) ≡ eqb id (stop_id s j)
  unfolding stop_index
  index_is d j id l = same_test (ltb (stop_index ids n id) n && eqb j (stop_index ids n id)) (eqb id (stop_id s j)) there back
    where
      there : (ltb (stop_index ids n id) n && eqb j (stop_index ids n id)) ≡ true → eqb id (stop_id s j) ≡ true
      there e =
          let q = eqb-true j (stop_index ids n id) (both_right (ltb (stop_index ids n id) n) (eqb j (stop_index ids n id)) e) in
          let m = ltb-true (stop_index ids n id) n (both_left (ltb (stop_index ids n id) n) (eqb j (stop_index ids n id)) e) in
          let z = index_has ids n id m in
          eq-eqb id (stop_id s j) (sym z ∙ ap (λ (k : ℕ). get_or ids k 0) (sym q) ∙ h.id_of j l)

      back : eqb id (stop_id s j) ≡ true → (ltb (stop_index ids n id) n && eqb j (stop_index ids n id)) ≡ true
      back e =
          let q = eqb-true id (stop_id s j) e in
          let at : stop_index ids n id ≡ j = lookup_at (λ k. eqb (get_or ids k 0) id) (λ k. k) n n j l (eq-eqb (get_or ids j 0) id (h.id_of j l ∙ sym q))
          (λ k lk t. d.same k j (within k lk) (within j l) (sym (h.id_of k lk) ∙ eqb-true (get_or ids k 0) id t ∙ q)) in
          both (lt-ltb (stop_index ids n id) n (rw at l)) (eq-eqb j (stop_index ids n id) (sym at))
        where
          within : (k : ℕ) → k < n → k < s.stops
          within k lk = let e = h.counted in omega arith
