-- Laws of the look-up over a column of keys (Columns). Assumes nothing.
use Rattle.std.specs.Prelude.{ℕ, ◌+◌, ◌/◌, ◌%◌, ◌^◌, ◌≤◌, ◌<◌, ◌≡◌, refl, Bool, true, false, ◌&&◌, List, eqb, leb, get_or}
use Rattle.std.proofs.Common.{inl, inr, ⊎_elim}
use native.Mathlib.Omega.{arith}
use borrow.Author.Tests.{eqb-true, eq-eqb, ne_eqb, leb-true, le-leb}
use Rattle.laws.specs.Bools.{both, both_left, both_right, not_both, less?}
use Rattle.weight_store.specs.Entries.{Entry}
use Rattle.weight_store.specs.Keys.{unpacked, held_entry, entry_key, unpacked_key}
use Rattle.weights.proofs.Leads.{Best, best_left, best_over}
use Rattle.weights.specs.LookUp.{started}
use Rattle.weights.specs.Columns.{first_key, last_key, least_key}

pub least_none : (n : ℕ) (keys : List ℕ) (slot : ℕ) → first_key slot ≡ least_key n keys slot n
unfolding least_key
least_none n keys slot = rw (eq-eqb n n refl)

pub least_next : (n : ℕ) (keys : List ℕ) (slot i : ℕ) → i < n → get_or keys i 0 + 1 ≡ least_key n keys slot i
unfolding least_key
least_next n keys slot i l = rw (ne_eqb i n (λ e. omega arith))

module _ (day slot k v : ℕ) (d : day < 2 ^ 32) where
  started_from : started day slot (unpacked k v) ≡ true → (first_key slot ≤ k) × (k ≤ last_key day slot)
  unfolding started unpacked
  started_from h =
      let a = eqb-true (k / 2 ^ 48) slot (both_left (eqb (k / 2 ^ 48) slot) _ h) in
      let b = leb-true (k / 2 ^ 16 % 2 ^ 32) day (both_right (eqb (k / 2 ^ 48) slot) _ h) in (omega arith, omega arith)

  started_by : first_key slot ≤ k → k ≤ last_key day slot → started day slot (unpacked k v) ≡ true
  unfolding started unpacked
  started_by a b = both (eq-eqb (k / 2 ^ 48) slot (omega arith)) (le-leb (k / 2 ^ 16 % 2 ^ 32) day (omega arith))

-- the walk's step at record i
module _ (n : ℕ) (keys values : List ℕ) (day slot i best : ℕ) {least : ℕ} (d : day < 2 ^ 32) (l : i < n) (is : least ≡ least_key n keys slot best) where
  abbrev e : ℕ → Entry
  e = held_entry keys values

  key_of : (j : ℕ) → entry_key (e j) ≡ get_or keys j 0
  unfolding held_entry
  key_of j = unpacked_key (get_or keys j 0) (get_or values j 0)

  from : (j : ℕ) → started day slot (e j) ≡ true → (first_key slot ≤ get_or keys j 0) × (get_or keys j 0 ≤ last_key day slot)
  unfolding held_entry
  from j = started_from day slot (get_or keys j 0) (get_or values j 0) d

  by : first_key slot ≤ get_or keys i 0 → get_or keys i 0 ≤ last_key day slot → started day slot (e i) ≡ true
  unfolding held_entry
  by = started_by day slot (get_or keys i 0) (get_or values i 0) d

  abbrev is_over : Bool
  is_over = leb least (get_or keys i 0) && leb (get_or keys i 0) (last_key day slot)

  pub takes_over : is_over ≡ true → Best n e day slot i best → Best n e day slot (i + 1) i
  takes_over h g = over (leb-true least (get_or keys i 0) (both_left (leb least (get_or keys i 0)) _ h)) (leb-true (get_or keys i 0) (last_key day slot) (both_right (leb least (get_or keys i 0)) _ h)) g
    where
      over : least ≤ get_or keys i 0 → get_or keys i 0 ≤ last_key day slot → Best n e day slot i best → Best n e day slot (i + 1) i
      over a b (inl (none, q)) =
          let f : first_key slot ≡ least_key n keys slot best = rw q (least_none n keys slot) in
          best_over n e day slot i best l (by (omega (arith, f, is)) b) (inl q) (inl (none, q))
      over a b (inr g) =
          let f = least_next n keys slot best (omega (arith, g.below)) in
          let o = (from best g.has_started).0 in
          best_over n e day slot i best l (by (omega (arith, f, is, o)) b) (inr (omega (arith, key_of i, key_of best, f, is))) (inr g)

  pub stays_best : is_over ≡ false → Best n e day slot i best → Best n e day slot (i + 1) best
  stays_best h g = stays (λ a b. not_both (both (le-leb least (get_or keys i 0) a) (le-leb (get_or keys i 0) (last_key day slot) b)) h) g
    where
      stays : (least ≤ get_or keys i 0 → get_or keys i 0 ≤ last_key day slot → ⊥) → Best n e day slot i best → Best n e day slot (i + 1) best
      stays not (inl (none, q)) =
          let f : first_key slot ≡ least_key n keys slot best = rw q (least_none n keys slot) in
          best_left n e day slot i best l (λ t. absurd (not (omega (arith, f, is, (from i t).0)) (from i t).1)) (inl (none, q))
      stays not (inr g) =
          let f = least_next n keys slot best (omega (arith, g.below)) in
          best_left n e day slot i best l
          (λ t. (
            λ q. omega (arith, g.below),
            ⊎_elim
                (λ (o : get_or keys best 0 < get_or keys i 0). absurd (not (omega (arith, f, is)) (from i t).1))
                (λ (o : get_or keys i 0 ≤ get_or keys best 0). omega (arith, key_of i, key_of best))
                (less? (get_or keys best 0) (get_or keys i 0)),
          ))
          (inr g)
