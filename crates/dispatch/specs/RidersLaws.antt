-- What is held of a car's riders is the sheet's, and so is pair_is_useful from what is held. Assumes nothing.
use Rattle.std.specs.Prelude.{None, Option, Some}
use Rattle.std.specs.Prelude.{ℕ, ◌<◌, ◌≤◌, ◌≡◌, Bool, ◌&&◌, cond, ltb, Float}
use Rattle.std.proofs.Common.{arith, sym, ◌∙◌}
use Rattle.std.proofs.Math.Path.{refl, ap, ap₂}
use Rattle.std.proofs.Math.Bool.{true, false, not, and_assoc}
use mathlib.Core.List.{List, ◌++◌}
use Rattle.std.proofs.Math.Dec.{eqb}
use Rattle.std.proofs.Math.ListN.{get_or, drop}
use Rattle.std.specs.Float.Ieee.{nan}
use Rattle.laws.specs.Bools.{both_right}
use Rattle.laws.specs.Folds.{any, any_cong, count, count_cong}
use Rattle.laws.specs.Collected.{collected, collected_cong}
use Rattle.mask.specs.Mask.{has}
use Rattle.mask.specs.MaskLaws.{has_built}
use Rattle.components.specs.declared.Point.{Point}
use Rattle.components.specs.Points.{point_of}
use Rattle.components.specs.Sheet.{Sheet}
use Rattle.manifest.specs.World.{stop_id, stop_position, rides}
use Rattle.manifest.specs.Stops.{HoldsStops, DistinctStops, stop_index, point_in, sides_of, side_of, place_at, position_in, position_is, index_is}
use Rattle.manifest.specs.Holds.{HoldsAboard}
use Rattle.riders.specs.declared.Riders.{Riders}
use Rattle.riders.specs.Riders.{known_at, exits_at, exits_in, dests_in, routed, routed_in, riders_in, Seats}
use Rattle.dispatch.specs.Useful.{can_exit_here}

abbrev pub is_at : Option Point → Bool
is_at None = false
is_at (Some d) = true

-- the point of a place that is one
abbrev pub stands_at : Option Point → Point
stands_at None = point_of nan nan
stands_at (Some d) = d

module _ (s : Sheet) (i : ℕ) where
  -- where rider a is bound for
  abbrev pub bound_for : ℕ → Option Point
  bound_for a = stop_position s (s.aboard a).destination

  -- rider a is in car i and its destination has a record
  abbrev pub rides_to : ℕ → Bool
  rides_to a = rides s i a && is_at (bound_for a)

  -- what is held of car i's riders is the sheet's
  pub record HoldsRiders (r : Riders) (dests sides : List Float) : Type 0 where
    pub exits : (j : ℕ) → j < s.stops → has r.exits j ≡ can_exit_here s i j
    pub routed : r.routed ≡ any (λ a. rides s i a && not (eqb (s.aboard a).destination 0)) s.aboards
    pub counted : r.count ≡ count rides_to s.aboards
    pub rest : List Float
    pub held : dests ≡ collected rides_to (λ a. (stands_at (bound_for a)).along) s.aboards ++ rest
    pub rest_aside : List Float
    pub aside : sides ≡ collected rides_to (λ a. (stands_at (bound_for a)).across) s.aboards ++ rest_aside

module _ (s : Sheet) (ids : List ℕ) (xs : List Float) (n : ℕ) (hs : HoldsStops s ids xs n) (small : n ≤ 64) (ds : DistinctStops s)
    (acar adest : List ℕ) (na : ℕ) (ha : HoldsAboard s acar adest na) (i : ℕ) where
  -- a destination has an index exactly where it has a position
  place_known : (id : ℕ) → ltb (stop_index ids n id) n ≡ is_at (stop_position s id)
  unfolding position_in place_at
  place_known id = by (ltb (stop_index ids n id) n) ∙ ap is_at (position_is s ids xs n hs id)
    where
      by : (b : Bool) → b ≡ is_at (cond b (Some (point_in xs (stop_index ids n id))) None)
      by true = refl
      by false = refl

  place_is : (id : ℕ) → ltb (stop_index ids n id) n ≡ true → point_in xs (stop_index ids n id) ≡ stands_at (stop_position s id)
  unfolding position_in place_at
  place_is id e =
      ap (λ (b : Bool). stands_at (cond b (Some (point_in xs (stop_index ids n id))) None)) (sym e) ∙ ap stands_at (position_is s ids xs n hs id)

  known_is : (a : ℕ) → a < na → known_at ids n acar adest (s.car i).id a ≡ rides_to s i a
  known_is a l =
      ap₂ (λ (x y : ℕ). eqb x (s.car i).id && ltb (stop_index ids n y) n) (ha.car_of a l) (ha.bound_for_lem a l)
      ∙ ap (λ (b : Bool). rides s i a && b) (place_known (s.aboard a).destination)

  dest_is : (a : ℕ) → a < na → known_at ids n acar adest (s.car i).id a ≡ true
      → point_in xs (stop_index ids n (get_or adest a 0)) ≡ stands_at (bound_for s i a)
  dest_is a l e =
      rw (ha.bound_for_lem a l)
      (place_is (s.aboard a).destination
      (place_known (s.aboard a).destination ∙ both_right (rides s i a) (is_at (bound_for s i a)) (sym (known_is a l) ∙ e)))

  exit_one : (j a : ℕ) → j < n → a < na
      → (known_at ids n acar adest (s.car i).id a && eqb j (stop_index ids n (get_or adest a 0)))
      ≡ (rides s i a && eqb (s.aboard a).destination (stop_id s j))
  exit_one j a l la =
      rw (ha.car_of a la, ha.bound_for_lem a la)
      (and_assoc (rides s i a) (ltb (stop_index ids n (s.aboard a).destination) n) (eqb j (stop_index ids n (s.aboard a).destination))
      ∙ ap (λ (b : Bool). rides s i a && b) (index_is s ids xs n hs ds j (s.aboard a).destination l))

  exit_is : (j : ℕ) → j < n → has (exits_in ids n acar adest (s.car i).id na) j ≡ can_exit_here s i j
  unfolding exits_in can_exit_here
  exit_is j l =
      has_built (exits_at ids n acar adest (s.car i).id na) j (omega arith)
      ∙ any_cong (λ a. known_at ids n acar adest (s.car i).id a && eqb j (stop_index ids n (get_or adest a 0)))
      (λ a. rides s i a && eqb (s.aboard a).destination (stop_id s j)) na (λ a la. exit_one j a l la)
      ∙ ap (any (λ a. rides s i a && eqb (s.aboard a).destination (stop_id s j))) ha.counted

  routed_is : routed_in acar adest (s.car i).id na ≡ any (λ a. rides s i a && not (eqb (s.aboard a).destination 0)) s.aboards
  unfolding routed_in
  routed_is =
      any_cong (λ a. routed (s.car i).id (get_or acar a 0) (get_or adest a 0)) (λ a. rides s i a && not (eqb (s.aboard a).destination 0)) na
      (λ a l. ap₂ (λ (x y : ℕ). eqb x (s.car i).id && not (eqb y 0)) (ha.car_of a l) (ha.bound_for_lem a l))
      ∙ ap (any (λ a. rides s i a && not (eqb (s.aboard a).destination 0))) ha.counted

  count_is : count (known_at ids n acar adest (s.car i).id) na ≡ count (rides_to s i) s.aboards
  count_is = count_cong (known_at ids n acar adest (s.car i).id) (rides_to s i) na known_is ∙ ap (count (rides_to s i)) ha.counted

  -- a coordinate of every stop, in a list
  dests_are : (ys : List Float) (coordinate : Point → Float) → ((k : ℕ) → get_or ys k nan ≡ coordinate (point_in xs k))
      → dests_in ids n acar adest (s.car i).id ys na ≡ collected (rides_to s i) (λ a. coordinate (stands_at (bound_for s i a))) s.aboards
  unfolding dests_in
  dests_are ys coordinate h =
      collected_cong (known_at ids n acar adest (s.car i).id) (rides_to s i) (λ a. get_or ys (stop_index ids n (get_or adest a 0)) nan)
      (λ a. coordinate (stands_at (bound_for s i a))) na known_is (λ a l e. h (stop_index ids n (get_or adest a 0)) ∙ ap coordinate (dest_is a l e))
      ∙ ap (collected (rides_to s i) (λ a. coordinate (stands_at (bound_for s i a)))) ha.counted

  along_of : (k : ℕ) → get_or xs k nan ≡ (point_in xs k).along
  unfolding point_in
  along_of k = refl

  across_of : (k : ℕ) → get_or (sides_of xs) k nan ≡ (point_in xs k).across
  unfolding point_in
  across_of k = side_of xs k

  -- what riders_of answers and leaves is the sheet's
  pub riders_held : (dests sides : List Float) (r : Riders) (dests' sides' : List Float)
      → Seats ids xs n acar adest na (s.car i).id dests sides r dests' sides' → HoldsRiders s i r dests' sides'
  unfolding riders_in
  riders_held dests sides r dests' sides' h =
      record {
        exits = λ j l. ap (λ (z : Riders). has z.exits j) h.answered ∙ exit_is j (let e = hs.counted in omega arith);
        routed = ap (λ (z : Riders). z.routed) h.answered ∙ routed_is;
        counted = ap (λ (z : Riders). z.count) h.answered ∙ count_is;
        rest = drop r.count dests;
        held = h.held ∙ ap (λ (l : List Float). l ++ drop r.count dests) (dests_are xs (λ p. p.along) along_of);
        rest_aside = drop r.count sides;
        aside = h.aside ∙ ap (λ (l : List Float). l ++ drop r.count sides) (dests_are (sides_of xs) (λ p. p.across) across_of);
      }
