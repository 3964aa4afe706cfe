-- The riders of a car, as one value that does not depend on a stop: the stops they are bound for as a mask, whether any has a destination, and the
-- known points of their destinations, in record order, in two lent buffers, of first and of second coordinates. Assumes nothing.
use Rattle.std.specs.Prelude.{ℕ, ◌+◌, ◌<◌, ◌≤◌, ◌≡◌, Bool, not, ◌&&◌, ◌||◌, cond, ◌≢◌, set, Float}
use native.Mathlib.Omega.{arith}
use Rattle.std.proofs.Math.Path.{refl, sym, ap}
use Rattle.std.proofs.Common.{◌∙◌}
use Rattle.std.proofs.Math.Bool.{true, false, or-false}
use mathlib.Core.List.{List, ◌++◌}
use Rattle.std.proofs.Math.Dec.{eqb, ltb}
use Rattle.std.proofs.Math.ListN.{get_or, length, drop}
use Rattle.std.specs.Float.{nan}
use borrow.Author.Tests.{eq-eqb, ne_eqb}
use Rattle.laws.specs.Bools.{bit}
use Rattle.laws.specs.Folds.{any, any_next, any_step, none_any, count, count_step, count_no, count-le}
use Rattle.laws.specs.Collected.{collected, collected_take, collected_skip, collected_length}
use Rattle.mask.specs.Mask.{has, built}
use Rattle.mask.specs.MaskLaws.{built_cong, has_built, none_built}
use Rattle.manifest.specs.Stops.{stop_index, sides_of}
use Rattle.riders.specs.declared.Riders.{Riders}

-- ---- one rider: in the car with this id, bound for a stop of the lists

-- the rider is in the car and its destination has a record
abbrev pub known : List ℕ → ℕ → ℕ → ℕ → ℕ → Bool
known ids n id car dest = eqb car id && ltb (stop_index ids n dest) n

-- the rider is in the car and is routed: an id of 0 is none
abbrev pub routed : ℕ → ℕ → ℕ → Bool
routed id car dest = eqb car id && not (eqb dest 0)

-- two lists of coordinates have those of n known destinations
abbrev pub HasPoints : ℕ → List Float → List Float → Type 0
HasPoints n along across = (n ≤ length along) × (n ≤ length across)

-- ---- the riders of na records

module _ (ids : List ℕ) (n : ℕ) (acar adest : List ℕ) (id : ℕ) where
  abbrev pub known_at : ℕ → Bool
  known_at a = known ids n id (get_or acar a 0) (get_or adest a 0)

  -- some rider of the car is bound for stop j
  abbrev pub exits_at : ℕ → ℕ → Bool
  exits_at na j = any (λ a. known_at a && eqb j (stop_index ids n (get_or adest a 0))) na

  -- the mask of the stops that riders of the car are bound for
  unfoldable pub exits_in : ℕ → ℕ
  exits_in na = built (exits_at na) 64

  -- where its riders are bound for, those whose destination has a record, in record order: of coordinates xs of the stops
  unfoldable pub dests_in : List Float → ℕ → List Float
  dests_in xs na = collected known_at (λ a. get_or xs (stop_index ids n (get_or adest a 0)) nan) na

unfoldable pub routed_in : List ℕ → List ℕ → ℕ → ℕ → Bool
routed_in acar adest id na = any (λ a. routed id (get_or acar a 0) (get_or adest a 0)) na

unfoldable pub riders_in : List ℕ → ℕ → List ℕ → List ℕ → ℕ → ℕ → Riders
riders_in ids n acar adest id na =
    record { count = count (known_at ids n acar adest id) na; exits = exits_in ids n acar adest id na; routed = routed_in acar adest id na }

-- the riders of a car with one more, bound for dest
unfoldable pub seated : List ℕ → ℕ → Riders → ℕ → Riders
seated ids n r dest =
    record {
      count = r.count + bit (ltb (stop_index ids n dest) n);
      exits = cond (ltb (stop_index ids n dest) n) (built (λ k. has r.exits k || eqb k (stop_index ids n dest)) 64) r.exits;
      routed = r.routed || not (eqb dest 0);
    }

-- one coordinate of a destination, stored where it has a record
abbrev pub stored : List ℕ → List Float → ℕ → ℕ → ℕ → List Float → List Float
stored ids xs n dest at entry = cond (ltb (stop_index ids n dest) n) (set entry at (get_or xs (stop_index ids n dest) nan)) entry

-- what one more rider leaves: the riders, and the buffers
pub record Seated (ids : List ℕ) (xs : List Float) (n : ℕ) (riders : Riders) (dest : ℕ) (dests sides : List Float) (r : Riders)
    (dests' sides' : List Float) : Type 0 where
  pub answered : r ≡ seated ids n riders dest
  pub held : dests' ≡ stored ids xs n dest riders.count dests
  pub aside : sides' ≡ stored ids (sides_of xs) n dest riders.count sides

-- the riders of a car, and the buffers: the known first and second coordinates, then what each held past them
pub record Seats (ids : List ℕ) (xs : List Float) (n : ℕ) (acar adest : List ℕ) (na id : ℕ) (dests sides : List Float) (r : Riders)
    (dests' sides' : List Float) : Type 0 where
  pub answered : r ≡ riders_in ids n acar adest id na
  pub held : dests' ≡ dests_in ids n acar adest id xs na ++ drop r.count dests
  pub aside : sides' ≡ dests_in ids n acar adest id (sides_of xs) na ++ drop r.count sides

-- ---- the turns of the loop

module _ (ids : List ℕ) (n : ℕ) (acar adest : List ℕ) (id : ℕ) where
  exits_one : (b : Bool) (m a idx : ℕ) → m ≡ built (exits_at ids n acar adest id a) 64
      → cond b (built (λ k. has m k || eqb k idx) 64) m ≡ built (λ k. exits_at ids n acar adest id a k || (b && eqb k idx)) 64
  exits_one true m a idx e =
      built_cong (λ k. has m k || eqb k idx) (λ k. exits_at ids n acar adest id a k || eqb k idx) 64
      (λ j l. ap (λ (x : Bool). x || eqb j idx) (ap (λ (z : ℕ). has z j) e ∙ has_built (exits_at ids n acar adest id a) j l))
  exits_one false m a idx e =
      e ∙ built_cong (exits_at ids n acar adest id a) (λ k. exits_at ids n acar adest id a k || false) 64
      (λ j l. sym (or-false (exits_at ids n acar adest id a j)))

  exits_start : 0 ≡ exits_in ids n acar adest id 0
  unfolding exits_in any
  exits_start = sym (none_built (exits_at ids n acar adest id 0) 64 (none_any (exits_at ids n acar adest id 0) 64 (λ k l. refl)))

  exits_next : (a m : ℕ) → m ≡ exits_in ids n acar adest id a
      → cond (known_at ids n acar adest id a) (built (λ k. has m k || eqb k (stop_index ids n (get_or adest a 0))) 64) m
      ≡ exits_in ids n acar adest id (a + 1)
  unfolding exits_in
  exits_next a m e =
      exits_one (known_at ids n acar adest id a) m a (stop_index ids n (get_or adest a 0)) e
      ∙ sym
      (built_cong (exits_at ids n acar adest id (a + 1))
      (λ k. exits_at ids n acar adest id a k || (known_at ids n acar adest id a && eqb k (stop_index ids n (get_or adest a 0)))) 64
      (λ j l. any_next (λ b. known_at ids n acar adest id b && eqb j (stop_index ids n (get_or adest b 0))) a))

  routed_next : (a : ℕ) {t : Bool} → t ≡ routed_in acar adest id a
      → (t || routed id (get_or acar a 0) (get_or adest a 0)) ≡ routed_in acar adest id (a + 1)
  unfolding routed_in
  routed_next a e = any_step (λ c. routed id (get_or acar c 0) (get_or adest c 0)) a e refl

  -- one more record, of a rider of the car or of another
  next_rides : (a : ℕ) (r r' : Riders) → get_or acar a 0 ≡ id → r ≡ riders_in ids n acar adest id a → r' ≡ seated ids n r (get_or adest a 0)
      → r' ≡ riders_in ids n acar adest id (a + 1)
  unfolding riders_in seated
  next_rides a r r' rides e d =
      let yes = eq-eqb (get_or acar a 0) id rides in
      let number = count_step (known_at ids n acar adest id) a (ap (λ (z : Riders). z.count) e) refl in
      let mask = exits_next a r.exits (ap (λ (z : Riders). z.exits) e) in
      let any = routed_next a (ap (λ (z : Riders). z.routed) e) in
      d ∙ rw (sym number, sym mask, sym any, yes) refl

  next_other : (a : ℕ) (r : Riders) → get_or acar a 0 ≢ id → r ≡ riders_in ids n acar adest id a → r ≡ riders_in ids n acar adest id (a + 1)
  unfolding riders_in
  next_other a r other e =
      let no = ne_eqb (get_or acar a 0) id other in
      let number = count_no (known_at ids n acar adest id) a (rw no refl) (ap (λ (z : Riders). z.count) e) in
      let mask : r.exits ≡ exits_in ids n acar adest id (a + 1) = rw no at (exits_next a r.exits (ap (λ (z : Riders). z.exits) e)) in
      let any : r.routed ≡ routed_in acar adest id (a + 1) = rw (no, or-false) at (routed_next a (ap (λ (z : Riders). z.routed) e)) in
      let same : record { count = r.count; exits = r.exits; routed = r.routed } ≡ riders_in ids n acar adest id (a + 1) =
      rw (number, mask, any) refl in
      same

  -- a buffer after it
  dests_next : (xs : List Float) (b : Bool) (a at : ℕ) (entry now : List Float) → known_at ids n acar adest id a ≡ b
      → at ≡ count (known_at ids n acar adest id) a → at < length entry → now ≡ dests_in ids n acar adest id xs a ++ drop at entry
      → cond b (set now at (get_or xs (stop_index ids n (get_or adest a 0)) nan)) now ≡ dests_in ids n acar adest id xs (a + 1) ++ drop (at + bit b) entry
  unfolding dests_in
  dests_next xs true a at entry now k e l h =
      collected_take (known_at ids n acar adest id) (λ c. get_or xs (stop_index ids n (get_or adest c 0)) nan) a at entry now
      (get_or xs (stop_index ids n (get_or adest a 0)) nan) k e l h refl
  dests_next xs false a at entry now k e l h =
      let q : at ≡ at + 0 = omega arith in
      collected_skip (known_at ids n acar adest id) (λ c. get_or xs (stop_index ids n (get_or adest c 0)) nan) a at entry now k h
      ∙ ap (λ (z : ℕ). dests_in ids n acar adest id xs (a + 1) ++ drop z entry) q

module _ (ids : List ℕ) (xs : List Float) (n : ℕ) (acar adest : List ℕ) (id : ℕ) {dests sides : List Float} where
  pub seats_start : Seats ids xs n acar adest 0 id dests sides (record { count = 0; exits = 0; routed = false }) dests sides
  unfolding riders_in dests_in collected count routed_in any
  seats_start = record { answered = rw (sym (exits_start ids n acar adest id)) refl; held = refl; aside = refl }

  module _ (a : ℕ) {r : Riders} {now side : List Float} (h : Seats ids xs n acar adest a id dests sides r now side) where
    counted : r.count ≡ count (known_at ids n acar adest id) a
    unfolding riders_in
    counted = ap (λ (z : Riders). z.count) h.answered

    pub seats_le : r.count ≤ a
    seats_le = rw counted (count-le (known_at ids n acar adest id) a)

    -- the known destinations fit the buffers, which keep their lengths
    pub seats_length : a ≤ length dests → a ≤ length sides
        → ((length now ≡ length dests) × (r.count ≤ length now)) × ((length side ≡ length sides) × (r.count ≤ length side))
    unfolding dests_in
    seats_length l m = (one xs dests now l h.held, one (sides_of xs) sides side m h.aside)
      where
        one : (ys entry exit : List Float) → a ≤ length entry
            → exit ≡ collected (known_at ids n acar adest id) (λ c. get_or ys (stop_index ids n (get_or adest c 0)) nan) a ++ drop r.count entry
            → (length exit ≡ length entry) × (r.count ≤ length exit)
        one ys entry exit room held =
            let few = seats_le in
            let e : length exit ≡ length entry =
            collected_length (known_at ids n acar adest id) (λ c. get_or ys (stop_index ids n (get_or adest c 0)) nan) a r.count entry exit counted
            (omega arith) held in
            (e, omega arith)

    -- a rider of the car is met
    pub seats_rides : {r' : Riders} {now' side' : List Float} → a < length dests → a < length sides → get_or acar a 0 ≡ id
        → Seated ids xs n r (get_or adest a 0) now side r' now' side' → Seats ids xs n acar adest (a + 1) id dests sides r' now' side'
    unfolding seated
    seats_rides {r'} {now'} {side'} l m rides d =
        let yes = eq-eqb (get_or acar a 0) id rides in
        let few = seats_le in
        let known : known_at ids n acar adest id a ≡ ltb (stop_index ids n (get_or adest a 0)) n = rw yes refl in
        let number : r'.count ≡ r.count + bit (ltb (stop_index ids n (get_or adest a 0)) n) = ap (λ (z : Riders). z.count) d.answered in
        record {
          answered = next_rides ids n acar adest id a r r' rides h.answered d.answered;
          held = d.held ∙ rw number (dests_next ids n acar adest id xs _ a r.count dests now known counted (omega arith) h.held);
          aside = d.aside ∙ rw number (dests_next ids n acar adest id (sides_of xs) _ a r.count sides side known counted (omega arith) h.aside);
        }

    -- a rider of another
    pub seats_other : a < length dests → a < length sides → get_or acar a 0 ≢ id → Seats ids xs n acar adest (a + 1) id dests sides r now side
    seats_other l m other =
        let few = seats_le in
        let unknown : known_at ids n acar adest id a ≡ false = rw (ne_eqb (get_or acar a 0) id other) refl in
        let q : r.count + 0 ≡ r.count = omega arith in
        record {
          answered = next_other ids n acar adest id a r other h.answered;
          held = rw q at (dests_next ids n acar adest id xs false a r.count dests now unknown counted (omega arith) h.held);
          aside = rw q at (dests_next ids n acar adest id (sides_of xs) false a r.count sides side unknown counted (omega arith) h.aside);
        }

    pub seats_end : (na : ℕ) → a ≤ na → na ≤ a → Seats ids xs n acar adest na id dests sides r now side
    seats_end na l m = let e : a ≡ na = omega arith in rw e at h
