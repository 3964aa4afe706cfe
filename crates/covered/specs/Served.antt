-- The stops that a car serves: no other stop is covered by cars. Assumes nothing.
--   target_next   one car more
--   served_only   of what is asked for, the served stops alone are looked at
--   none_served   where there is none, none is covered
use Rattle.std.specs.Prelude.{ℕ, ◌+◌, ◌<◌, ◌≡◌, Bool, ◌&&◌, List, eqb, ltb, get_or}
use Rattle.std.proofs.Math.Path.{refl}
use Rattle.std.proofs.Common.{sym, ap, ◌∙◌, ⊎_elim, arith, lt-ltb, ne_eqb}
use Rattle.std.proofs.Math.Bool.{true, false, and-true, and-false}
use Rattle.laws.specs.Bools.{which, kept_id, both_left}
use Rattle.laws.specs.Folds.{any, any_none, none_any}
use Rattle.mask.specs.Mask.{has, built}
use Rattle.mask.specs.MaskLaws.{built_cong, has_built, none_built, built_none}
use Rattle.components.specs.Cars.{servicing}
use Rattle.components.specs.Sheet.{Sheet}
use Rattle.manifest.specs.World.{stop_id}
use Rattle.assignment.specs.Pending.{serves, covered_by_cars}
use Rattle.covered.specs.Columns.{served_target, HoldsIds, fewer_stops}
use Rattle.covered.specs.Walk.{with_named, named_by, walk_on}

module _ (s : Sheet) (asked : ℕ) (names : List ℕ) (h : HoldsIds s asked names) where
  -- car i serves the stop that its target names
  served_name : (i j : ℕ) → j < s.stops → serves s j i ≡ eqb (served_target (s.car i)) (get_or names j 0)
  unfolding serves
  served_name i j l =
      rw (h.held j l) (sym (kept_id (servicing (s.car i).phase) (s.car i).target (stop_id s j) (h.above_zero j l)))

  pub target_next : (i m target : ℕ) {r : ℕ} → target ≡ served_target (s.car i) → m ≡ named_by (serves s) s.stops i
      → r ≡ with_named names s.stops m target → r ≡ named_by (serves s) s.stops (i + 1)
  target_next i m target t before e =
      walk_on names s.stops h.rising (serves s) i target m before true
      (λ j l. served_name i j l ∙ rw (← t) (sym (and-true (eqb target (get_or names j 0))))) e

  -- a car that serves none
  pub no_target : (i m target : ℕ) → target ≡ served_target (s.car i) → m ≡ named_by (serves s) s.stops i → target ≡ 0
      → m ≡ named_by (serves s) s.stops (i + 1)
  no_target i m target t before none =
      walk_on names s.stops h.rising (serves s) i target m before false
      (λ j l. served_name i j l ∙ rw (← t, and-false (eqb target (get_or names j 0)))
      (ne_eqb target (get_or names j 0) (λ e. absurd (omega (arith, h.held j l, h.above_zero j l))))) refl

  -- what is asked for and named is asked for and served
  pub asked_served : (m : ℕ) → m ≡ named_by (serves s) s.stops s.cars
      → built (λ j. has asked j && has m j) 64 ≡ built (λ j. has asked j && any (serves s j) s.cars) 64
  asked_served m e =
      built_cong (λ j. has asked j && has m j) (λ j. has asked j && any (serves s j) s.cars) 64
      (λ j l. ⊎_elim
      (λ (t : has asked j ≡ true).
      rw t (ap (λ (x : ℕ). has x j) e ∙ has_built (λ k. ltb k s.stops && any (serves s k) s.cars) j l ∙ rw (lt-ltb j s.stops (h.recorded j l t)) refl))
      (λ (t : has asked j ≡ false). rw t)
      (which (has asked j)))

  module _ (served : ℕ) (is : served ≡ built (λ j. has asked j && any (serves s j) s.cars) 64) where
    at : (j : ℕ) → j < 64 → has served j ≡ (has asked j && any (serves s j) s.cars)
    at j l = ap (λ (x : ℕ). has x j) is ∙ has_built (λ k. has asked k && any (serves s k) s.cars) j l

    pub served_ids : HoldsIds s served names
    served_ids = fewer_stops s asked served names h (λ j l t. both_left (has asked j) (any (serves s j) s.cars) (sym (at j l) ∙ t))

    pub served_only : built (λ j. has served j && covered_by_cars s j) 64 ≡ built (λ j. has asked j && covered_by_cars s j) 64
    unfolding covered_by_cars
    served_only =
        built_cong (λ j. has served j && covered_by_cars s j) (λ j. has asked j && covered_by_cars s j) 64
        (λ j l. rw (at j l) (twice (has asked j) (any (serves s j) s.cars) _))
      where
        twice : (a b c : Bool) → ((a && b) && (b && c)) ≡ (a && (b && c))
        twice true true c = refl
        twice true false c = refl
        twice false b c = refl

    pub none_served : served ≡ 0 → 0 ≡ built (λ j. has asked j && covered_by_cars s j) 64
    unfolding covered_by_cars
    none_served z = none (λ j l. any_none (λ k. has asked k && any (serves s k) s.cars) 64 (built_none (λ k. has asked k && any (serves s k) s.cars) 64 (sym is ∙ z)) j l)
      where
        rest : (a b c : Bool) → (a && b) ≡ false → (a && (b && c)) ≡ false
        rest true b c e = rw e refl
        rest false b c e = refl

        none : ((j : ℕ) → j < 64 → (has asked j && any (serves s j) s.cars) ≡ false) → 0 ≡ built (λ j. has asked j && covered_by_cars s j) 64
        none f =
            sym (none_built (λ j. has asked j && covered_by_cars s j) 64 (none_any (λ j. has asked j && covered_by_cars s j) 64
            (λ j l. rest (has asked j) (any (serves s j) s.cars) _ (f j l))))
