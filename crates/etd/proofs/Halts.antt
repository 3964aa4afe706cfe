-- The demand stops between a car and a stop are what the counts of the two give. Assumes nothing.
use Prim.Native.Nat.{ℕ, zero, suc, ◌+◌, ◌-◌, ◌*◌, ◌/◌, ◌%◌, ◌≤◌, ◌<◌}
use Rattle.std.proofs.Common.{arith, sym, ◌∙◌, ⊎_elim}
use Rattle.std.specs.Prelude.{◌≡◌, Bool, ◌&&◌, drop, replicate, Float}
use Rattle.std.proofs.Math.Path.{refl, ap, ap₂}
use Rattle.std.proofs.Math.Bool.{true, false, not, cond, and-false}
use mathlib.Core.List.{List}
use Rattle.std.proofs.Math.ListN.{get_or}
use Rattle.std.specs.Float.Ieee.{nan, lt}
use Rattle.std.specs.Float.{inf, fin}
use Rattle.laws.specs.Bools.{bit, which, never, not_both, contrary, both_left, both_right}
use Rattle.laws.specs.Folds.{count, count_cong, count-le}
use Rattle.laws.specs.Counts.{count_mono, count_none}
use Rattle.laws.specs.Tables.{get_or-tab}
use Rattle.fp.specs.Decimals.{infinity_is}
use Rattle.fp.specs.Num.{epsilon, infinity, plus, minus}
use Rattle.fp.specs.Order.{real, lt_left, lt_trans, le_lt_trans}
use Rattle.mask.specs.Mask.{has}
use Rattle.etd.specs.Etd.{intervenes}
use Rattle.etd.specs.Pairs.{intervening_in, halts_at}
use Rattle.etd.specs.Halts.{place_of, demand_places, short_of, up_to, counts_at, stop_counts, HoldsCounts, halts_between}

-- ---- places

-- infinity is below nothing
not_between : (lo x : Float) → (lt lo (inf false) && lt (inf false) x) ≡ false
unfolding lt
not_between lo nan = and-false (lt lo (inf false))
not_between lo (inf s) = and-false (lt lo (inf false))
not_between lo (fin s m e) = and-false (lt lo (inf false))

-- what is not below infinity is below nothing
not_below : (q x : Float) → lt q (inf false) ≡ false → lt q x ≡ false
unfolding lt
not_below nan x h = refl
not_below (inf true) x h = never (sym h)
not_below (inf false) nan h = refl
not_below (inf false) (inf s) h = refl
not_below (inf false) (fin s m e) h = refl
not_below (fin s m e) x h = never (sym h)

-- a place is no NaN
place_real : (b : Bool) (q : Float) → real (place_of b q) ≡ true
unfolding place_of
place_real b q = by (b && lt q infinity) refl
  where
    by : (c : Bool) → (b && lt q infinity) ≡ c → real (cond c q infinity) ≡ true
    by true e = lt_left q infinity (both_right b (lt q infinity) e)
    by false e = rw infinity_is refl

-- a place between two is that of a stop with demand between them
place_between : (lo hi q : Float) (b : Bool) → (lt lo (place_of b q) && lt (place_of b q) hi) ≡ (b && (lt lo q && lt q hi))
unfolding place_of
place_between lo hi q false = rw infinity_is (not_between lo hi)
place_between lo hi q true = by (lt q infinity) refl
  where
    by : (c : Bool) → lt q infinity ≡ c → (lt lo (cond c q infinity) && lt (cond c q infinity) hi) ≡ (lt lo q && lt q hi)
    by true e = refl
    by false e =
        rw infinity_is (not_between lo hi)
        ∙ sym (ap (λ (b : Bool). lt lo q && b) (not_below q hi (sym (ap (lt q) infinity_is) ∙ e)) ∙ and-false (lt lo q))

-- ---- counts

-- between lo and hi, where lo is below hi, lie those below hi but for those that are not above lo
below_parts : (lo hi q : Float) → real q ≡ true → lt lo hi ≡ true → bit (lt q hi) ≡ bit (lt lo q && lt q hi) + bit (not (lt lo q))
below_parts lo hi q r h = by (lt lo q) refl
  where
    by : (b : Bool) → lt lo q ≡ b → bit (lt q hi) ≡ bit (b && lt q hi) + bit (not b)
    by true e = omega arith
    by false e = ap bit (le_lt_trans q lo hi r e h)

module _ (lo hi : Float) (f : ℕ → Float) where
  count_parts : (n : ℕ) → ((k : ℕ) → k < n → real (f k) ≡ true) → lt lo hi ≡ true
      → count (λ k. lt (f k) hi) n ≡ count (λ k. lt lo (f k) && lt (f k) hi) n + count (λ k. not (lt lo (f k))) n
  unfolding count
  count_parts zero r h = refl
  count_parts (suc n) r h = omega (arith, count_parts n (λ k l. r k (omega arith)) h, below_parts lo hi (f n) (r n (omega arith)) h)

  -- between them lies nothing, where it is not
  apart : lt lo hi ≡ false → (q : Float) → lt q hi ≡ true → lt lo q ≡ false
  apart h q e = contrary (lt lo q) (λ t. not_both (lt_trans lo q hi t e) h)

  between_is : (n : ℕ) → ((k : ℕ) → k < n → real (f k) ≡ true)
      → count (λ k. lt (f k) hi) n - count (λ k. not (lt lo (f k))) n ≡ count (λ k. lt lo (f k) && lt (f k) hi) n
  between_is n r =
      ⊎_elim
      (λ (h : lt lo hi ≡ true). omega (arith, count_parts n r h))
      (λ (h : lt lo hi ≡ false).
      omega (
        arith,
        count_mono (λ k. lt (f k) hi) (λ k. not (lt lo (f k))) n (λ k l e. ap not (apart h (f k) e)),
        count_none (λ k. lt lo (f k) && lt (f k) hi) n
            (λ k l. contrary (lt lo (f k) && lt (f k) hi)
            (λ t. not_both (both_left (lt lo (f k)) (lt (f k) hi) t) (apart h (f k) (both_right (lt lo (f k)) (lt (f k) hi) t)))),
      ))
      (which (lt lo hi))

-- two counts in one number
first_of : (a b : ℕ) → b ≤ 64 → (a * 128 + b) / 128 ≡ a
first_of a b l = omega arith

second_of : (a b : ℕ) → b ≤ 64 → (a * 128 + b) % 128 ≡ b
second_of a b l = omega arith

module _ (demand : ℕ) (xs : List Float) (n : ℕ) (few : n ≤ 64) where
  place_at : (k : ℕ) → k < n → get_or (demand_places demand xs n) k nan ≡ place_of (has demand k) (get_or xs k nan)
  unfolding demand_places
  place_at k l = get_or-tab (λ i. place_of (has demand i) (get_or xs i nan)) n k (drop n (replicate 64 infinity)) nan l

  up_few : (x : Float) → up_to (demand_places demand xs n) n x ≤ 64
  unfolding up_to
  up_few x = omega (arith, count-le (λ k. not (lt (plus x epsilon) (get_or (demand_places demand xs n) k nan))) n)

  -- those short of y, less those up to x
  less_up : (x y : Float)
      → short_of (demand_places demand xs n) n y - up_to (demand_places demand xs n) n x
      ≡ count (λ k. has demand k && (lt (plus x epsilon) (get_or xs k nan) && lt (get_or xs k nan) (minus y epsilon))) n
  unfolding short_of up_to
  less_up x y =
      between_is (plus x epsilon) (minus y epsilon) (λ k. get_or (demand_places demand xs n) k nan) n
      (λ k l. ap real (place_at k l) ∙ place_real (has demand k) (get_or xs k nan))
      ∙ count_cong
      (λ k. lt (plus x epsilon) (get_or (demand_places demand xs n) k nan) && lt (get_or (demand_places demand xs n) k nan) (minus y epsilon))
      (λ k. has demand k && (lt (plus x epsilon) (get_or xs k nan) && lt (get_or xs k nan) (minus y epsilon))) n
      (λ k l. ap (λ (q : Float). lt (plus x epsilon) q && lt q (minus y epsilon)) (place_at k l)
      ∙ place_between (plus x epsilon) (minus y epsilon) (get_or xs k nan) (has demand k))

  -- the places between are the demand stops between
  halts_are : (x p : Float)
      → halts_between x p (counts_at (demand_places demand xs n) n x) (counts_at (demand_places demand xs n) n p) ≡ intervening_in x p demand xs n
  unfolding halts_between counts_at intervening_in intervenes
  halts_are x p = by (lt x p)
    where
      by : (b : Bool)
          → cond b
          ((short_of (demand_places demand xs n) n p * 128 + up_to (demand_places demand xs n) n p) / 128
          - (short_of (demand_places demand xs n) n x * 128 + up_to (demand_places demand xs n) n x) % 128)
          ((short_of (demand_places demand xs n) n x * 128 + up_to (demand_places demand xs n) n x) / 128
          - (short_of (demand_places demand xs n) n p * 128 + up_to (demand_places demand xs n) n p) % 128)
          ≡ count (λ k. has demand k && (lt (plus (cond b x p) epsilon) (get_or xs k nan) && lt (get_or xs k nan) (minus (cond b p x) epsilon))) n
      by true = rw (first_of _ _ (up_few p), second_of _ _ (up_few x)) (less_up x p)
      by false = rw (first_of _ _ (up_few x), second_of _ _ (up_few p)) (less_up p x)

  -- the halts before stop j, from the car's counts and the table's
  pub halts_at_lem : (x : Float) (table : List ℕ) {places : List Float} {car : ℕ} → HoldsCounts demand xs n table → places ≡ demand_places demand xs n
      → car ≡ counts_at places n x → (j : ℕ) → j < n → halts_between x (get_or xs j nan) car (get_or table j 0) ≡ halts_at x demand xs n j
  unfolding halts_at stop_counts
  halts_at_lem x table h ep ec j l =
      ap₂ (halts_between x (get_or xs j nan)) (ec ∙ ap (λ (ps : List Float). counts_at ps n x) ep) (h.at j l) ∙ halts_are x (get_or xs j nan)
