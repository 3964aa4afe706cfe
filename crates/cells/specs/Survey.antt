-- What a pass has read of an accepted sheet before it fills rows. Assumes nothing.
use Rattle.std.specs.Prelude.{Ok}
use Rattle.std.specs.Prelude.{ℕ, ◌+◌, ◌≤◌, ◌<◌, ◌≡◌, refl, ◌&&◌, List, [], ◌++◌, ltb, length, get_or, take, drop, Float}
use Rattle.std.proofs.Common.{sym, ap, ◌∙◌, append_assoc, append-nil, ⊎_elim, arith, length-append, length-take, length-drop, drop_of_length-le, take_all, take_at, drop_at, get_or-append-add, le-ltb}
use Rattle.std.specs.Float.{nan}
use Rattle.laws.specs.Bools.{less?}
use Rattle.laws.specs.Folds.{count-le}
use Rattle.laws.specs.Tables.{tab, length-tab, filtered, length_filtered, front_length}
use Rattle.mask.specs.Mask.{has, built}
use Rattle.mask.specs.MaskLaws.{built_cong}
use Rattle.fields.specs.Held.{held}
use Rattle.components.specs.declared.Point.{Point}
use Rattle.components.specs.Sheet.{Sheet}
use Rattle.layout.specs.declared.Counts.{Counts}
use Rattle.layout.specs.Records.{sheet_of}
use Rattle.layout.specs.Verdict.{verdict}
use Rattle.accepted.specs.Sound.{SoundSheet}
use Rattle.accepted.specs.Accepted.{accepted}
use Rattle.fp.specs.Order.{finite_real}
use Rattle.fp.specs.Inside.{mass_finite}
use Rattle.fp.specs.Apart.{room_finite}
use Rattle.manifest.specs.World.{stop_id, stop_at}
use Rattle.manifest.specs.Holds.{HoldsAboard}
use Rattle.manifest.specs.Stops.{HoldsStops}
use Rattle.dispatch.specs.WaitersLaws.{Weighed}
use Rattle.assignment.specs.Pending.{idle, idle_cars, row_car}
use Rattle.pending.specs.declared.StopMasks.{StopMasks}
use Rattle.pending.specs.Masks.{masks_of}
use Rattle.mask.specs.declared.Ones.{Ones}
use Rattle.mask.specs.Ones.{ones_of}
use Rattle.rows.specs.HeldLaws.{Held}
use Rattle.rows.specs.Gathered.{waiters_at, Gathered, gathered_held}
use Rattle.rows.specs.MatrixLaws.{Ready, Rows, listed_number, listed_at, listed_below}
use Rattle.cells.specs.Ids.{rising_of}

-- the stops with their ids and points, and their masks
pub record SeenStops (s : Sheet) (ids : List ℕ) (xs : List Float) (masks : StopMasks) : Type 0 where
  pub stops_held : HoldsStops s ids xs s.stops
  pub masks_are : masks ≡ masks_of s

-- these; the pending stops and the idle cars, listed
pub record Survey (s : Sheet) (ids : List ℕ) (xs : List Float) (masks : StopMasks) (stops idle : Ones) : Type 0 where
  pub seen : SeenStops s ids xs masks
  pub listed : stops ≡ ones_of masks.pending
  pub rows : Rows s idle

-- ---- columns that were filled hold the sheet's records

-- the coordinates of n points in a buffer of 128: first ones, second ones from 64 on, and past either what it held
unfoldable pub coordinates : (ℕ → Point) → ℕ → List Float → List Float
coordinates f n xs = (tab (λ j. (f j).along) n ++ drop n (take 64 xs)) ++ (tab (λ j. (f j).across) n ++ drop n (drop 64 xs))

-- a half of the buffer keeps its length
half_length : (f : ℕ → Float) (n : ℕ) (xs : List Float) → n ≤ 64 → length xs ≡ 64 → length (tab f n ++ drop n xs) ≡ 64
half_length f n xs l e = simp (length-append, length-tab, length-drop) (omega arith)

pub halves : (f : ℕ → Point) (n : ℕ) (xs : List Float) {first second : List Float} → n ≤ 64 → length xs ≡ 128
    → first ≡ tab (λ j. (f j).along) n ++ drop n (take 64 xs)
    → second ≡ tab (λ j. (f j).across) n ++ drop n (take 64 (drop 64 (first ++ drop 64 xs)))
    → take 64 (first ++ drop 64 xs) ++ (second ++ drop 64 (drop 64 (first ++ drop 64 xs))) ≡ coordinates f n xs
unfolding coordinates
halves f n xs {first} {second} l e d g =
    let low : length (take 64 xs) ≡ 64 = simp length-take (omega arith) in
    let high : length (drop 64 xs) ≡ 64 = simp length-drop (omega arith) in
    let size : length first ≡ 64 = rw d (half_length (λ j. (f j).along) n (take 64 xs) l low) in
    let front : take 64 (first ++ drop 64 xs) ≡ first = take_at first (drop 64 xs) 64 size in
    let back : drop 64 (first ++ drop 64 xs) ≡ drop 64 xs = drop_at first (drop 64 xs) 64 size in
    let whole : take 64 (drop 64 xs) ≡ drop 64 xs = take_all 64 (drop 64 xs) (omega arith) in
    let none : drop 64 (drop 64 xs) ≡ [] = drop_of_length-le (drop 64 xs) {i = 64} (omega arith) in
    let after : second ≡ tab (λ j. (f j).across) n ++ drop n (drop 64 xs) = rw (back, whole) at g in
    rw (front, back, none, d, after) (ap (λ (z : List Float). (tab (λ j. (f j).along) n ++ drop n (take 64 xs)) ++ z) (append-nil _))

-- the second half, and the whole, once the first is filled
pub halves_length : (xs first : List Float) → length first ≡ length (take 64 xs) → length xs ≡ 128
    → length (take 64 (drop 64 (first ++ drop 64 xs))) ≡ 64
halves_length xs first d e =
    let low : length (take 64 xs) ≡ 64 = simp length-take (omega arith) in
    simp (length-take, length-drop, length-append) (omega arith)

pub halves_same : (xs first second : List Float) → length first ≡ length (take 64 xs)
    → length second ≡ length (take 64 (drop 64 (first ++ drop 64 xs))) → length xs ≡ 128
    → length (take 64 (first ++ drop 64 xs) ++ (second ++ drop 64 (drop 64 (first ++ drop 64 xs)))) ≡ length xs
halves_same xs first second d g e =
    let low : length (take 64 xs) ≡ 64 = simp length-take (omega arith) in
    let high = halves_length xs first d e in
    simp (length-append, length-take, length-drop) (omega arith)

pub holds_stops : (s : Sheet) (ids : List ℕ) (xs : List Float) (r : List ℕ) (q : List Float) → ids ≡ tab (stop_id s) s.stops ++ r
    → xs ≡ coordinates (stop_at s) s.stops q → s.stops ≤ 64 → length q ≡ 128 → HoldsStops s ids xs s.stops
unfolding coordinates
holds_stops s ids xs r q e f few size =
    let a = tab (λ j. (stop_at s j).along) s.stops in
    let b = tab (λ j. (stop_at s j).across) s.stops ++ drop s.stops (drop 64 q) in
    let low : length (take 64 q) ≡ 64 = simp length-take (omega arith) in
    let whole : length (a ++ drop s.stops (take 64 q)) ≡ 64 = half_length (λ j. (stop_at s j).along) s.stops (take 64 q) few low in
    record {
      counted = refl;
      id_of = λ j l. held (stop_id s) s.stops r ids e 0 j l;
      at = λ j l. held (λ k. (stop_at s k).along) s.stops (drop s.stops (take 64 q) ++ b) xs
          (f ∙ append_assoc a (drop s.stops (take 64 q)) b) nan j l;
      side = λ j l. ap (λ (z : List Float). get_or z (64 + j) nan) f
          ∙ ap (λ (n : ℕ). get_or ((a ++ drop s.stops (take 64 q)) ++ b) (n + j) nan) (sym whole)
          ∙ get_or-append-add (a ++ drop s.stops (take 64 q)) b j nan
          ∙ held (λ k. (stop_at s k).across) s.stops (drop s.stops (drop 64 q)) b refl nan j l;
    }

pub holds_aboard : (s : Sheet) (acar adest r q : List ℕ) → acar ≡ tab (λ a. (s.aboard a).car) s.aboards ++ r
    → adest ≡ tab (λ a. (s.aboard a).destination) s.aboards ++ q → HoldsAboard s acar adest s.aboards
holds_aboard s acar adest r q e f =
    record {
      counted = refl;
      car_of = λ j l. held (λ a. (s.aboard a).car) s.aboards r acar e 0 j l;
      bound_for_lem = λ j l. held (λ a. (s.aboard a).destination) s.aboards q adest f 0 j l;
    }

-- ---- the idle cars

-- as a mask of their records
unfoldable pub idle_mask : Sheet → ℕ
idle_mask s = built (λ i. ltb i s.cars && idle s i) 64

pub rows_listed : (s : Sheet) → s.cars ≤ 32 → (idle : Ones) → idle ≡ ones_of (idle_mask s) → Rows s idle
unfolding idle_mask idle_cars row_car
rows_listed s few listed h =
    let fit : s.cars ≤ 64 = omega arith in
    let number = listed_number (idle s) s.cars fit (idle_mask s) refl listed h in
    record {
      number = number;
      few = omega (arith, number, count-le (idle s) s.cars);
      car_of = listed_at (idle s) s.cars fit (idle_mask s) refl listed h;
      below = listed_below (idle s) s.cars fit (idle_mask s) refl listed h;
    }

-- ---- ready to fill rows

-- no weight is a NaN, and what a car still takes is finite
pub weighed_of : (s : Sheet) → SoundSheet s → (i : ℕ) → i < s.cars → Weighed s i
weighed_of s h i l =
    record {
      weights = λ w lw. finite_real (s.waiting w).weight (mass_finite (s.waiting w).weight (h.waiting w lw).weight);
      room = room_finite (s.car i).capacity (s.car i).load (h.car i l).capacity (h.car i l).load;
    }

pub ready : (bytes : List ℕ) (c : Counts) → verdict bytes ≡ Ok c
    → (ids : List ℕ) (xs : List Float) (masks : StopMasks) (stops idle : Ones)
    → Survey (sheet_of bytes c) ids xs masks stops idle → (acar adest : List ℕ)
    → HoldsAboard (sheet_of bytes c) acar adest (sheet_of bytes c).aboards
    → (someone : ℕ) (entry sums : List Float) → Gathered (sheet_of bytes c) masks.calls someone entry sums
    → Ready (sheet_of bytes c) ids xs acar adest masks (waiters_at someone masks.calls sums) stops
ready bytes c e ids xs masks stops idle h acar adest ha someone entry sums hw =
    let sound = (accepted bytes c e).sheet in
    record {
      held = record {
        stops_held = h.seen.stops_held;
        aboard_held = ha;
        rising = rising_of bytes c e;
        few = sound.most_stops;
        masks_are = h.seen.masks_are;
      };
      waiting = gathered_held (sheet_of bytes c) masks.calls someone entry sums hw;
      weighed = weighed_of (sheet_of bytes c) sound;
      listed = h.listed;
    }

-- what is held of the sheet where riders and stops were seen
pub held_of : (bytes : List ℕ) (c : Counts) → verdict bytes ≡ Ok c → (ids : List ℕ) (xs : List Float) (masks : StopMasks)
    → SeenStops (sheet_of bytes c) ids xs masks → (acar adest : List ℕ) → HoldsAboard (sheet_of bytes c) acar adest (sheet_of bytes c).aboards
    → Held (sheet_of bytes c) ids xs acar adest masks
held_of bytes c e ids xs masks h acar adest ha =
    record {
      stops_held = h.stops_held;
      aboard_held = ha;
      rising = rising_of bytes c e;
      few = (accepted bytes c e).sheet.most_stops;
      masks_are = h.masks_are;
    }
