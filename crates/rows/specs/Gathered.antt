-- What waits at each stop, gathered once a pass: two masks, and five doubles a stop in one list. Assumes nothing.
use Rattle.std.specs.Prelude.{ℕ, ◌+◌, ◌*◌, ◌≤◌, ◌<◌, ◌≡◌, false, cond, ◌||◌, List, ◌≢◌, length, set, Float}
use Rattle.std.proofs.Math.Path.{refl, sym, ap}
use Rattle.std.proofs.Common.{◌∙◌, arith, eq-eqb, ne_eqb}
use Rattle.std.proofs.Math.Bool.{or-true, or-false}
use Rattle.std.proofs.Math.Logic.{⊎_elim}
use Rattle.std.proofs.Math.Dec.{eqb}
use Rattle.std.proofs.Math.ListN.{get_or, length-set}
use Rattle.std.specs.Float.Ieee.{nan}
use Rattle.std.proofs.Math.Seq.{get_or-set_same, get_or-set_other}
use Rattle.laws.specs.Bools.{same?}
use Rattle.laws.specs.Folds.{fold, fold_next, none_any}
use Rattle.laws.specs.Tables.{tab, get_or-tab₀}
use Rattle.mask.specs.Mask.{has, built}
use Rattle.mask.specs.MaskLaws.{has_built, none_built}
use Rattle.fp.specs.Least.{least}
use Rattle.components.specs.Sheet.{Sheet}
use Rattle.manifest.specs.declared.Waiters.{Waiters}
use Rattle.manifest.specs.Manifest.{someone_waits, riderless_call}
use Rattle.manifest.specs.Waiters as waiters
use Rattle.manifest.specs.Waiters.{with_rider, meet, waiters_in}
use Rattle.manifest.specs.Holds.{HoldsWaiting}
use Rattle.manifest.specs.Stops.{HoldsStops, Ascending, stop_index, position_in, index_has, index_at}
use Rattle.dispatch.specs.Waits.{wait_ticks_sum, wait_ticks_squared_sum}
use Rattle.dispatch.specs.WaitersLaws.{HoldsWaiters, waits_up, waits_down, waits_level, weight_of}
use Rattle.dispatch.proofs.WaitersLaws.{waiters_held}
use Rattle.pending.specs.Masks.{stop_mask}
use Rattle.rows.specs.HeldLaws.{below_has}

-- what waits at stop j of a sheet
abbrev pub waiters_of : Sheet → ℕ → Waiters
waiters_of s j =
    record {
      someone = someone_waits s j;
      call = riderless_call s j;
      waitsum = wait_ticks_sum s j;
      squares = wait_ticks_squared_sum s j;
      up = least (waits_up s j) (weight_of s j) s.waits;
      down = least (waits_down s j) (weight_of s j) s.waits;
      level = least (waits_level s j) (weight_of s j) s.waits;
    }

-- what waits at stop j, of two masks and a list that has five doubles a stop
unfoldable pub waiters_at : ℕ → ℕ → List Float → ℕ → Waiters
waiters_at someone calls sums j =
    record {
      someone = has someone j;
      call = has calls j;
      waitsum = get_or sums (j * 5) nan;
      squares = get_or sums (j * 5 + 1) nan;
      up = get_or sums (j * 5 + 2) nan;
      down = get_or sums (j * 5 + 3) nan;
      level = get_or sums (j * 5 + 4) nan;
    }

-- the list with those of stop j
unfoldable pub put_at : List Float → ℕ → Waiters → List Float
put_at sums j v =
    set (set (set (set (set sums (j * 5) v.waitsum) (j * 5 + 1) v.squares) (j * 5 + 2) v.up) (j * 5 + 3) v.down) (j * 5 + 4) v.level

-- a list that holds what waits at each stop of a sheet, and past them what it held
pub record Gathered (s : Sheet) (calls someone : ℕ) (entry sums : List Float) : Type 0 where
  pub size : length sums ≡ length entry
  pub each : (j : ℕ) → j < s.stops → waiters_at someone calls sums j ≡ waiters_of s j
  pub past : (i : ℕ) → s.stops * 5 ≤ i → get_or sums i nan ≡ get_or entry i nan

pub gathered_held : (s : Sheet) (calls someone : ℕ) (entry sums : List Float) → Gathered s calls someone entry sums → (j : ℕ) → j < s.stops
    → HoldsWaiters s j (waiters_at someone calls sums j)
gathered_held s calls someone entry sums h j l =
    rw (h.each j l) (record { someone = refl; call = refl; waitsum = refl; squares = refl; up = refl; down = refl; level = refl })

-- ---- five doubles put

module _ (sums : List Float) (j : ℕ) (v : Waiters) where
  abbrev put1 : List Float
  put1 = set sums (j * 5) v.waitsum

  abbrev put2 : List Float
  put2 = set put1 (j * 5 + 1) v.squares

  abbrev put3 : List Float
  put3 = set put2 (j * 5 + 2) v.up

  abbrev put4 : List Float
  put4 = set put3 (j * 5 + 3) v.down

  pub put_length : length (put_at sums j v) ≡ length sums
  unfolding put_at
  put_length = length-set put4 (j * 5 + 4) v.level ∙ length-set put3 (j * 5 + 3) v.down ∙ length-set put2 (j * 5 + 2) v.up
      ∙ length-set put1 (j * 5 + 1) v.squares ∙ length-set sums (j * 5) v.waitsum

  -- elsewhere nothing changes
  pub put_other : (i : ℕ) → ((k : ℕ) → k < 5 → i ≢ j * 5 + k) → get_or (put_at sums j v) i nan ≡ get_or sums i nan
  unfolding put_at
  put_other i ne =
      get_or-set_other put4 (j * 5 + 4) i v.level nan (ne 4 (omega arith))
      ∙ get_or-set_other put3 (j * 5 + 3) i v.down nan (ne 3 (omega arith))
      ∙ get_or-set_other put2 (j * 5 + 2) i v.up nan (ne 2 (omega arith))
      ∙ get_or-set_other put1 (j * 5 + 1) i v.squares nan (ne 1 (omega arith))
      ∙ get_or-set_other sums (j * 5) i v.waitsum nan (λ e. ne 0 (omega arith) (omega arith))

  module _ (room : j * 5 + 5 ≤ length sums) where
    la : length put1 ≡ length sums
    la = length-set sums (j * 5) v.waitsum

    lb : length put2 ≡ length sums
    lb = length-set put1 (j * 5 + 1) v.squares ∙ la

    lc : length put3 ≡ length sums
    lc = length-set put2 (j * 5 + 2) v.up ∙ lb

    ld : length put4 ≡ length sums
    ld = length-set put3 (j * 5 + 3) v.down ∙ lc

    at_0 : get_or (put_at sums j v) (j * 5) nan ≡ v.waitsum
    unfolding put_at
    at_0 = get_or-set_other put4 (j * 5 + 4) (j * 5) v.level nan (λ e. absurd (omega arith))
        ∙ get_or-set_other put3 (j * 5 + 3) (j * 5) v.down nan (λ e. absurd (omega arith))
        ∙ get_or-set_other put2 (j * 5 + 2) (j * 5) v.up nan (λ e. absurd (omega arith))
        ∙ get_or-set_other put1 (j * 5 + 1) (j * 5) v.squares nan (λ e. absurd (omega arith))
        ∙ get_or-set_same sums (j * 5) v.waitsum nan (omega arith)

    at_1 : get_or (put_at sums j v) (j * 5 + 1) nan ≡ v.squares
    unfolding put_at
    at_1 = get_or-set_other put4 (j * 5 + 4) (j * 5 + 1) v.level nan (λ e. absurd (omega arith))
        ∙ get_or-set_other put3 (j * 5 + 3) (j * 5 + 1) v.down nan (λ e. absurd (omega arith))
        ∙ get_or-set_other put2 (j * 5 + 2) (j * 5 + 1) v.up nan (λ e. absurd (omega arith))
        ∙ get_or-set_same put1 (j * 5 + 1) v.squares nan (omega (arith, la))

    at_2 : get_or (put_at sums j v) (j * 5 + 2) nan ≡ v.up
    unfolding put_at
    at_2 = get_or-set_other put4 (j * 5 + 4) (j * 5 + 2) v.level nan (λ e. absurd (omega arith))
        ∙ get_or-set_other put3 (j * 5 + 3) (j * 5 + 2) v.down nan (λ e. absurd (omega arith))
        ∙ get_or-set_same put2 (j * 5 + 2) v.up nan (omega (arith, lb))

    at_3 : get_or (put_at sums j v) (j * 5 + 3) nan ≡ v.down
    unfolding put_at
    at_3 = get_or-set_other put4 (j * 5 + 4) (j * 5 + 3) v.level nan (λ e. absurd (omega arith))
        ∙ get_or-set_same put3 (j * 5 + 3) v.down nan (omega (arith, lc))

    at_4 : get_or (put_at sums j v) (j * 5 + 4) nan ≡ v.level
    unfolding put_at
    at_4 = get_or-set_same put4 (j * 5 + 4) v.level nan (omega (arith, ld))

    pub waiters_here : (someone calls : ℕ) → has someone j ≡ v.someone → has calls j ≡ v.call → waiters_at someone calls (put_at sums j v) j ≡ v
    unfolding waiters_at
    waiters_here someone calls es ec = rw (es, ec, at_0, at_1, at_2, at_3, at_4) refl

  pub waiters_other : (k someone before calls : ℕ) → k ≢ j → has someone k ≡ has before k
      → waiters_at someone calls (put_at sums j v) k ≡ waiters_at before calls sums k
  unfolding waiters_at
  waiters_other k someone before calls ne e =
      rw (
        e,
        put_other (k * 5) (λ i l q. absurd (ne (omega arith))),
        put_other (k * 5 + 1) (λ i l q. absurd (ne (omega arith))),
        put_other (k * 5 + 2) (λ i l q. absurd (ne (omega arith))),
        put_other (k * 5 + 3) (λ i l q. absurd (ne (omega arith))),
        put_other (k * 5 + 4) (λ i l q. absurd (ne (omega arith))),
      ) refl

-- nobody waits at the first n stops; past them the list is as it was
pub record Cleared (n : ℕ) (entry sums : List Float) : Type 0 where
  pub size : length sums ≡ length entry
  pub each : (calls j : ℕ) → j < n → waiters_at 0 calls sums j ≡ waiters.nobody (has calls j)
  pub past : (i : ℕ) → n * 5 ≤ i → get_or sums i nan ≡ get_or entry i nan

pub cleared_start : (entry : List Float) → Cleared 0 entry entry
cleared_start entry = record { size = refl; each = λ calls j l. absurd (omega arith); past = λ i l. refl }

pub cleared_next : (n : ℕ) (entry sums : List Float) {v : Waiters} → n < 64 → length entry ≡ 320 → v ≡ waiters.nobody false → Cleared n entry sums
    → Cleared (n + 1) entry (put_at sums n v)
unfolding put_at
cleared_next n entry sums few room e h =
    rw e
    (record {
      size = put_length sums n (waiters.nobody false) ∙ h.size;
      each = λ calls j l.
          ⊎_elim
          (λ (q : j ≡ n). rw q (waiters_here sums n (waiters.nobody (has calls n)) (omega (arith, room, h.size)) 0 calls (none_has n few) refl))
          (λ ne. waiters_other sums n (waiters.nobody false) j 0 0 calls ne refl ∙ h.each calls j (omega arith))
          (same? j n);
      past = λ i l. put_other sums n (waiters.nobody false) i (λ k lk q. absurd (omega arith)) ∙ h.past i (omega arith);
    })
  where
    none_has : (k : ℕ) → k < 64 → has 0 k ≡ false
    none_has k l =
        ap (λ (m : ℕ). has m k) (sym (none_built (λ _. false) 64 (none_any (λ _. false) 64 (λ _ _. refl)))) ∙ has_built (λ _. false) k l

waiters_are : (s : Sheet) (j : ℕ) (v : Waiters) → HoldsWaiters s j v → v ≡ waiters_of s j
waiters_are s j v h =
    let e : record {
      someone = v.someone;
      call = v.call;
      waitsum = v.waitsum;
      squares = v.squares;
      up = v.up;
      down = v.down;
      level = v.level;
    } ≡ waiters_of s j =
    rw (h.someone, h.call, h.waitsum, h.squares, h.up, h.down, h.level) refl in
    e

-- ---- one walk over the riders: each is met once, at the stop whose id it names

module _ (s : Sheet) (ids : List ℕ) (xs : List Float) (calls : ℕ) where
  -- what waits at stop j of the first w riders
  unfoldable pub met_at : ℕ → ℕ → Waiters
  met_at w j =
      waiters_in ids xs s.stops j (has calls j) (tab (λ k. (s.waiting k).stop) s.waits) (tab (λ k. (s.waiting k).destination) s.waits)
      (tab (λ k. (s.waiting k).weight) s.waits) (tab (λ k. (s.waiting k).wait) s.waits) w

  -- of the first w riders each was met
  pub record Met (w someone : ℕ) (entry sums : List Float) : Type 0 where
    pub size : length sums ≡ length entry
    pub each : (j : ℕ) → j < s.stops → waiters_at someone calls sums j ≡ met_at w j
    pub past : (i : ℕ) → s.stops * 5 ≤ i → get_or sums i nan ≡ get_or entry i nan

  pub met_start : (entry sums : List Float) → Cleared s.stops entry sums → Met 0 0 sums sums
  unfolding met_at waiters_in fold
  met_start entry sums h = record { size = refl; each = h.each calls; past = λ i l. refl }

  -- one rider more
  next : (w j : ℕ) → w < s.waits
      → met_at (w + 1) j ≡ cond (eqb (s.waiting w).stop (get_or ids j 0))
      (with_rider (met_at w j) (get_or xs j nan) (position_in ids xs s.stops (s.waiting w).destination) (s.waiting w).weight (s.waiting w).wait)
      (met_at w j)
  unfolding met_at waiters_in meet
  next w j l =
      fold_next _ _ w
      ∙ rw (
        get_or-tab₀ (λ k. (s.waiting k).stop) s.waits w 0 l,
        get_or-tab₀ (λ k. (s.waiting k).destination) s.waits w 0 l,
        get_or-tab₀ (λ k. (s.waiting k).weight) s.waits w nan l,
        get_or-tab₀ (λ k. (s.waiting k).wait) s.waits w 0 l,
      ) refl

  module _ (up : Ascending ids s.stops) (few : s.stops ≤ 64) (w someone : ℕ) (l : w < s.waits) {entry sums : List Float}
      (h : Met w someone entry sums) where
    -- it is not the stop that the rider names
    stays : (k : ℕ) → k < s.stops → stop_index ids s.stops (s.waiting w).stop ≢ k → met_at w k ≡ met_at (w + 1) k
    stays k lk ne =
        let other = ne_eqb (s.waiting w).stop (get_or ids k 0)
        (λ e. absurd (ne (index_at ids s.stops up k (s.waiting w).stop lk (sym e)))) in
        sym (next w k l ∙ rw other refl)

    -- the rider waits at stop j
    pub met_here : (j : ℕ) {r : Waiters} {now : ℕ} → length entry ≡ 320 → j ≡ stop_index ids s.stops (s.waiting w).stop
        → j < s.stops
        → r ≡ with_rider (waiters_at someone calls sums j) (get_or xs j nan) (position_in ids xs s.stops (s.waiting w).destination)
        (s.waiting w).weight (s.waiting w).wait
        → now ≡ built (λ k. has someone k || eqb k j) 64
        → Met (w + 1) now entry (put_at sums j r)
    unfolding with_rider waiters_at
    met_here j {r} {now} room e lj er en =
        let id : (s.waiting w).stop ≡ get_or ids j 0 = rw e (sym (index_has ids s.stops (s.waiting w).stop (rw e at lj))) in
        let marked : (k : ℕ) → k < 64 → has now k ≡ (has someone k || eqb k j) =
        λ k lk. ap (λ (x : ℕ). has x k) en ∙ has_built (λ i. has someone i || eqb i j) k lk in
        record {
          size = put_length sums j r ∙ h.size;
          each = λ k lk.
              ⊎_elim
              (λ (q : k ≡ j).
              rw q
              (waiters_here sums j r (omega (arith, room, h.size)) now calls
              (marked j (omega arith) ∙ rw (eq-eqb j j refl) (or-true (has someone j)) ∙ sym (ap (λ (z : Waiters). z.someone) er))
              (sym (ap (λ (z : Waiters). z.call) er))
              ∙ er
              ∙ ap (λ (z : Waiters). with_rider z (get_or xs j nan) (position_in ids xs s.stops (s.waiting w).destination) (s.waiting w).weight
              (s.waiting w).wait) (h.each j lj)
              ∙ sym (next w j l ∙ rw (eq-eqb (s.waiting w).stop (get_or ids j 0) id) refl)))
              (λ ne. waiters_other sums j r k now someone calls ne
              (marked k (omega arith) ∙ rw (ne_eqb k j ne) (or-false (has someone k)))
              ∙ h.each k lk ∙ stays k lk (λ x. ne (sym x ∙ sym e)))
              (same? k j);
          past = λ i li. put_other sums j r i (λ k lk q. absurd (omega arith)) ∙ h.past i li;
        }

    -- it waits at no stop with a record
    pub met_nowhere : (j : ℕ) → j ≡ stop_index ids s.stops (s.waiting w).stop → s.stops ≤ j → Met (w + 1) someone entry sums
    met_nowhere j e lj =
        record {
          size = h.size;
          each = λ k lk. h.each k lk ∙ stays k lk (λ x. absurd (omega (arith, e, lj)));
          past = h.past;
        }

  -- every rider is met
  pub met_all : HoldsStops s ids xs s.stops → s.stops ≤ 64 → calls ≡ stop_mask s (riderless_call s) → (someone : ℕ) {entry cleared sums : List Float}
      → Cleared s.stops entry cleared → Met s.waits someone cleared sums → Gathered s calls someone entry sums
  unfolding met_at
  met_all hs few e someone d h =
      record {
        size = h.size ∙ d.size;
        each = λ j l. h.each j l
            ∙ waiters_are s j _
            (waiters_held s ids xs s.stops hs _ _ _ _ s.waits held j (has calls j) l (below_has s (riderless_call s) calls few e j l));
        past = λ i l. h.past i l ∙ d.past i l;
      }
    where
      held : HoldsWaiting s (tab (λ k. (s.waiting k).stop) s.waits) (tab (λ k. (s.waiting k).destination) s.waits)
          (tab (λ k. (s.waiting k).weight) s.waits) (tab (λ k. (s.waiting k).wait) s.waits) s.waits
      held =
          record {
            counted = refl;
            stop_of = λ w l. get_or-tab₀ (λ k. (s.waiting k).stop) s.waits w 0 l;
            bound_for_lem = λ w l. get_or-tab₀ (λ k. (s.waiting k).destination) s.waits w 0 l;
            weight_of_lem = λ w l. get_or-tab₀ (λ k. (s.waiting k).weight) s.waits w nan l;
            ticks_of = λ w l. get_or-tab₀ (λ k. (s.waiting k).wait) s.waits w 0 l;
          }
