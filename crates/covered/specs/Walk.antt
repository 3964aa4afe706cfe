-- The mask of the stops that records name, by a walk over the records. Assumes nothing.
--   walk_start   no record names no stop
--   walk_on      one record more
use Prim.Native.Nat.{ℕ, ◌+◌, ◌≤◌, ◌<◌}
use Rattle.std.specs.Prelude.{◌≡◌, refl, Bool, cond, ◌&&◌, ◌||◌, List, get_or}
use Rattle.std.proofs.Math.Path.{sym, ap}
use Rattle.std.proofs.Common.{◌∙◌}
use Rattle.std.proofs.Math.Bool.{true, false, and-true, and-false, and_assoc, and-or_distrib_left, or-false}
use Rattle.std.proofs.Math.Logic.{⊎_elim}
use Rattle.std.proofs.Math.Dec.{eqb, ltb}
use borrow.Author.Tests.{lt-ltb, le-ltb, eq-eqb, eqb-true, ltb-true}
use Rattle.laws.specs.Bools.{same_test, less?, both, both_left, both_right}
use Rattle.laws.specs.Folds.{any, any_next, none_any}
use Rattle.mask.specs.Mask.{has, built}
use Rattle.mask.specs.MaskLaws.{built_cong, has_built, none_built}
use Rattle.manifest.specs.Stops.{Ascending, stop_index, index_has, index_at}

-- a mask with the stop that has the id, one of n with their names, as it is where none has
unfoldable pub with_named : List ℕ → ℕ → ℕ → ℕ → ℕ
with_named names n m id = cond (ltb (stop_index names n id) n) (built (λ j. has m j || eqb j (stop_index names n id)) 64) m

-- the stops, of n, that one of the first k records names: q j i where record i names stop j
abbrev pub named_by : (ℕ → ℕ → Bool) → ℕ → ℕ → ℕ
named_by q n k = built (λ j. ltb j n && any (q j) k) 64

pub walk_start : (q : ℕ → ℕ → Bool) (n : ℕ) → 0 ≡ named_by q n 0
unfolding any
walk_start q n =
    sym (none_built (λ j. ltb j n && any (q j) 0) 64 (none_any (λ j. ltb j n && any (q j) 0) 64 (λ j l. and-false (ltb j n))))

module _ (names : List ℕ) (n : ℕ) (h : Ascending names n) where
  -- a stop has the id exactly where it is the one of the id's index
  index_named : (j id : ℕ) → (ltb j n && eqb id (get_or names j 0)) ≡ (ltb (stop_index names n id) n && eqb j (stop_index names n id))
  index_named j id = same_test (ltb j n && eqb id (get_or names j 0)) (ltb i n && eqb j i) there back
    where
      i : ℕ
      i = stop_index names n id

      there : (ltb j n && eqb id (get_or names j 0)) ≡ true → (ltb i n && eqb j i) ≡ true
      there e =
          let l = ltb-true j n (both_left (ltb j n) (eqb id (get_or names j 0)) e) in
          let q = eqb-true id (get_or names j 0) (both_right (ltb j n) (eqb id (get_or names j 0)) e) in
          let at : i ≡ j = index_at names n h j id l (sym q) in
          both (lt-ltb i n (rw at l)) (eq-eqb j i (sym at))

      back : (ltb i n && eqb j i) ≡ true → (ltb j n && eqb id (get_or names j 0)) ≡ true
      back e =
          let l = ltb-true i n (both_left (ltb i n) (eqb j i) e) in
          let q : j ≡ i = eqb-true j i (both_right (ltb i n) (eqb j i) e) in
          both (lt-ltb j n (rw q l)) (eq-eqb id (get_or names j 0) (sym (ap (λ (k : ℕ). get_or names k 0) q ∙ index_has names n id l)))

  -- record k has the id of the stop that it names, and names it where b holds
  module _ (q : ℕ → ℕ → Bool) (k id : ℕ) where
    -- what one record more names
    one_more : (b : Bool) → ((j : ℕ) → j < n → q j k ≡ (eqb id (get_or names j 0) && b)) → (j : ℕ)
        → (ltb j n && any (q j) (k + 1)) ≡ ((ltb j n && any (q j) k) || ((ltb (stop_index names n id) n && eqb j (stop_index names n id)) && b))
    one_more b e j =
        ap (λ (x : Bool). ltb j n && x) (any_next (q j) k)
        ∙ and-or_distrib_left (ltb j n) (any (q j) k) (q j k)
        ∙ ap (λ (x : Bool). (ltb j n && any (q j) k) || x)
        (⊎_elim
        (λ (l : j < n). ap (λ (x : Bool). ltb j n && x) (e j l))
        (λ (l : n ≤ j). rw (le-ltb j n l) refl)
        (less? j n)
        ∙ sym (and_assoc (ltb j n) (eqb id (get_or names j 0)) b)
        ∙ ap (λ (x : Bool). x && b) (index_named j id))

    module _ (m : ℕ) (before : m ≡ named_by q n k) where
      -- it names none
      skipped : ((j : ℕ) → (ltb j n && any (q j) (k + 1)) ≡ ((ltb j n && any (q j) k) || false)) → m ≡ named_by q n (k + 1)
      skipped e =
          before ∙ built_cong (λ j. ltb j n && any (q j) k) (λ j. ltb j n && any (q j) (k + 1)) 64
          (λ j lj. sym (e j ∙ or-false (ltb j n && any (q j) k)))

      named_next : ((j : ℕ) → j < n → q j k ≡ (eqb id (get_or names j 0) && true)) → with_named names n m id ≡ named_by q n (k + 1)
      unfolding with_named
      named_next e =
          ⊎_elim
          (λ (l : i < n). let t : ltb i n ≡ true = lt-ltb i n l in
          rw t (built_cong (λ j. has m j || eqb j i) (λ j. ltb j n && any (q j) (k + 1)) 64
          (λ j lj.
          ap (λ (x : Bool). x || eqb j i) (ap (λ (x : ℕ). has x j) before ∙ has_built (λ o. ltb o n && any (q o) k) j lj)
          ∙ sym (one_more true e j ∙ rw (t, and-true (eqb j i)) refl))))
          (λ (l : n ≤ i). let t : ltb i n ≡ false = le-ltb i n l in rw t (skipped (λ j. one_more true e j ∙ rw t refl)))
          (less? i n)
        where
          i : ℕ
          i = stop_index names n id

      pub walk_on : (b : Bool) {r : ℕ} → ((j : ℕ) → j < n → q j k ≡ (eqb id (get_or names j 0) && b)) → r ≡ cond b (with_named names n m id) m
          → r ≡ named_by q n (k + 1)
      walk_on true e er = er ∙ named_next e
      walk_on false e er =
          er ∙ skipped (λ j. one_more false e j
          ∙ ap (λ (x : Bool). (ltb j n && any (q j) k) || x) (and-false (ltb (stop_index names n id) n && eqb j (stop_index names n id))))
