-- Masks by columns are the sheet's. Assumes nothing.
use Rattle.std.specs.Prelude.{ℕ, ◌+◌, ◌-◌, ◌*◌, ◌^◌, ◌≤◌, ◌<◌, ◌≡◌, Bool, false, ◌&&◌, ◌||◌, cond, List, ◌++◌, eqb, get_or}
use Rattle.std.proofs.Math.Path.{refl, ap, ap₂}
use Rattle.std.proofs.Common.{sym, ◌∙◌, arith}
use Rattle.std.proofs.Math.Bool.{true, not, and-true, and_comm}
use Rattle.std.proofs.Math.Logic.{⊎_elim}
use Rattle.std.proofs.Math.Nat.{zero-div}
use Rattle.std.proofs.Math.Dec.{ltb}
use borrow.Author.Tests.{ltb-true, lt-ltb, le-ltb}
use Rattle.laws.specs.Bools.{same?, less?, both_left, dropped_id}
use Rattle.laws.specs.Folds.{any, any_cong, any_next, none_any}
use Rattle.laws.specs.Tables.{tab}
use Rattle.bits.specs.Field.{field_at, field_lt}
use Rattle.mask.specs.Mask.{has, built}
use Rattle.mask.specs.MaskLaws.{built_cong, has_built, none_built}
use Rattle.components.specs.declared.Kind.TheVariants.{Car}
use Rattle.components.specs.Sheet.{Sheet}
use Rattle.layout.specs.declared.Counts.{Counts}
use Rattle.layout.specs.Offsets.{cars_from, record_length}
use Rattle.layout.specs.Records.{from, read, car_of, sheet_of}
use Rattle.layout.specs.Table.{car_id_field, car_listed_field}
use Rattle.manifest.specs.World.{stop_id, in_group}
use Rattle.manifest.specs.Manifest.{someone_waits, riderless_call, ridden_to, has_demand, demand_stop}
use Rattle.assignment.specs.Pending.{closed_at, covered, idle, idle_bound, pending}
use Rattle.covered.specs.Columns.{HoldsIds}
use Rattle.covered.specs.Same.{closed_in}
use Rattle.fields.specs.Held.{held}
use Rattle.fields.specs.Named.{contains, guarded}
use Rattle.covered.specs.Walk.{with_named, walk_on}
use Rattle.manifest.specs.Stops.{stop_index}
use Rattle.pending.specs.Masks.{stop_mask, line_stop, HoldsNames, HoldsIdle, names_rise}

-- ---- stops that records name

-- one record more
pub named_next : (s : Sheet) (names : List ℕ) → HoldsNames s names → (q : ℕ → ℕ → Bool) (k m id : ℕ) (b : Bool) {r : ℕ}
    → m ≡ stop_mask s (λ j. any (q j) k) → ((j : ℕ) → j < s.stops → q j k ≡ (eqb id (stop_id s j) && b)) → r ≡ cond b (with_named names s.stops m id) m
    → r ≡ stop_mask s (λ j. any (q j) (k + 1))
named_next s names h q k m id b e f er =
    walk_on names s.stops (names_rise h) q k id m e b (λ j l. rw (h.held j l) (f j l)) er

-- the stop of an index, where b holds
pub with_index_named : (names : List ℕ) (n id m j : ℕ) (b : Bool) {r : ℕ} → j ≡ stop_index names n id
    → r ≡ cond (b && ltb j n) (built (λ k. has m k || eqb k j) 64) m → r ≡ cond b (with_named names n m id) m
unfolding with_named
with_index_named names n id m j true e er = rw (← e) er
with_index_named names n id m j false e er = er

-- ---- columns

guarded_column : (b : List ℕ) (at off guard w id : ℕ) → 0 < id
    → eqb (guarded b at off guard w) id ≡ (eqb (field_at b (at + off) 32) id && not (eqb (field_at b (at + guard) w) 0))
unfolding guarded
guarded_column b at off guard w id h = dropped_id (eqb (field_at b (at + guard) w) 0) (field_at b (at + off) 32) id h

-- a single bit is one where it is not zero
flag_is : (s : List ℕ) (at : ℕ) → not (eqb (field_at s at 1) 0) ≡ eqb (field_at s at 1) 1
flag_is s at = two (field_at s at 1) (field_lt s at 1)
  where
    two : (x : ℕ) → x < 2 ^ 1 → not (eqb x 0) ≡ eqb x 1
    two x h =
        ⊎_elim
        (λ (e : x ≡ 0). rw e)
        (λ ne. let o : x ≡ 1 = omega arith in rw o)
        (same? x 0)

-- the ids of the idle cars, from where the car records stand
pub idle_column : (b : List ℕ) (c : Counts) (at len : ℕ) (ids r : List ℕ) → at ≡ cars_from c → len ≡ record_length c.across Car
    → ids ≡ tab (λ i. guarded b (at + len * i) car_id_field.start car_listed_field.start 1) c.cars ++ r → HoldsIdle (sheet_of b c) ids
unfolding contains idle sheet_of car_of
idle_column b c at len ids r ea el e = record { held = λ x pos. any_cong (λ i. eqb (get_or ids i 0) x) (λ i. idle s i && eqb (s.car i).id x) c.cars (one x pos) }
  where
    s : Sheet
    s = sheet_of b c

    one : (x : ℕ) → 0 < x → (i : ℕ) → i < c.cars → eqb (get_or ids i 0) x ≡ (idle s i && eqb (s.car i).id x)
    one x pos i li =
        ap (λ (y : ℕ). eqb y x) (held (λ k. guarded b (at + len * k) car_id_field.start car_listed_field.start 1) c.cars r ids e 0 i li)
        ∙ guarded_column b (at + len * i) car_id_field.start car_listed_field.start 1 x pos
        ∙ ap (λ (t : Bool). eqb (read (from b (at + len * i)) car_id_field) x && t) (flag_is b (at + len * i + car_listed_field.start))
        ∙ ap₂ (λ (y z : ℕ). eqb (read (from b (y + z * i)) car_id_field) x && eqb (read (from b (y + z * i)) car_listed_field) 1) ea el
        ∙ and_comm (eqb (s.car i).id x) (s.car i).listed

-- ---- lines

-- one line more
pub line_next : (s : Sheet) (every : Bool) (id l m x : ℕ) → m ≡ built (line_stop s every id l) 64
    → ((j : ℕ) → j < 64 → has x j ≡ ((every || eqb (s.line l).id id) && has (s.line l).serves j))
    → built (λ j. has m j || has x j) 64 ≡ built (line_stop s every id (l + 1)) 64
unfolding line_stop
line_next s every id l m x e h =
    built_cong (λ j. has m j || has x j) (line_stop s every id (l + 1)) 64
    (λ j lj.
    ap₂ (λ (a b : Bool). a || b) (ap (λ (n : ℕ). has n j) e ∙ has_built (line_stop s every id l) j lj) (h j lj)
    ∙ sym (any_next (λ k. (every || eqb (s.line k).id id) && has (s.line k).serves j) l))

-- no line, no stop
pub nothing : (s : Sheet) (every : Bool) (id : ℕ) → 0 ≡ built (line_stop s every id 0) 64
unfolding line_stop any
nothing s every id = sym (none_built (line_stop s every id 0) 64 (none_any (line_stop s every id 0) 64 (λ j l. refl)))

pub no_stop : (j : ℕ) → j < 64 → has 0 j ≡ false
unfolding has
no_stop j l = rw (zero-div (2 ^ (63 - j)))

pub cond_has : (b : Bool) (x j : ℕ) → j < 64 → has (cond b x 0) j ≡ (b && has x j)
cond_has true x j l = refl
cond_has false x j l = no_stop j l

-- ---- masks put together

module _ (s : Sheet) where
  pub mask_has : (p : ℕ → Bool) (m : ℕ) → m ≡ stop_mask s p → (j : ℕ) → j < 64 → has m j ≡ (ltb j s.stops && p j)
  mask_has p m e j l = ap (λ (n : ℕ). has n j) e ∙ has_built (λ k. ltb k s.stops && p k) j l

  pub group_is : (j : ℕ) → line_stop s true 0 s.lines j ≡ in_group s j
  unfolding line_stop in_group
  group_is j = refl

  demand_parts : (b g w r c : Bool) → (g && ((b && w) || ((b && r) || (b && c)))) ≡ (b && (g && (w || (r || c))))
  demand_parts true g w r c = refl
  demand_parts false true w r c = refl
  demand_parts false false w r c = refl

  pub demand_mask : (group waited ridden calls : ℕ) → group ≡ built (line_stop s true 0 s.lines) 64
      → waited ≡ stop_mask s (someone_waits s) → ridden ≡ stop_mask s (ridden_to s) → calls ≡ stop_mask s (riderless_call s)
      → built (λ j. has group j && has (built (λ k. has waited k || has (built (λ i. has ridden i || has calls i) 64) k) 64) j) 64 ≡ stop_mask s
      (demand_stop s)
  unfolding demand_stop has_demand
  demand_mask group waited ridden calls eg ew er ec =
      built_cong (λ j. has group j && has (built (λ k. has waited k || has (built (λ i. has ridden i || has calls i) 64) k) 64) j)
      (λ j. ltb j s.stops && demand_stop s j) 64
      (λ j l.
      ap₂ (λ (a b : Bool). a && b)
      (ap (λ (n : ℕ). has n j) eg ∙ has_built (line_stop s true 0 s.lines) j l ∙ group_is j)
      (has_built (λ k. has waited k || has (built (λ i. has ridden i || has calls i) 64) k) j l
      ∙ ap₂ (λ (a b : Bool). a || b) (mask_has (someone_waits s) waited ew j l)
      (has_built (λ i. has ridden i || has calls i) j l
      ∙ ap₂ (λ (a b : Bool). a || b) (mask_has (ridden_to s) ridden er j l) (mask_has (riderless_call s) calls ec j l)))
      ∙ demand_parts (ltb j s.stops) (in_group s j) (someone_waits s j) (ridden_to s j) (riderless_call s j))

  -- a mask of names of closed landings, at the stops with a record
  pub closed_has : (names : List ℕ) (m : ℕ) → HoldsNames s names → m ≡ built (closed_in s names) 64 → (j : ℕ) → j < 64 → j < s.stops
      → has m j ≡ closed_at s j
  unfolding closed_in closed_at
  closed_has names m h e j l k = ap (λ (n : ℕ). has n j) e ∙ has_built (closed_in s names) j l ∙ rw (h.held j k)

  pending_parts : (d x c i : Bool) → ((d && not x) && not (((d && not x) && c) && not i)) ≡ (not x && (d && (i || not c)))
  pending_parts true true c i = refl
  pending_parts true false true true = refl
  pending_parts true false true false = refl
  pending_parts true false false true = refl
  pending_parts true false false false = refl
  pending_parts false true c i = refl
  pending_parts false false c i = refl

  -- the demand stops that are not closed
  module _ (names : List ℕ) (demand closed kept : ℕ) (h : HoldsNames s names) (ed : demand ≡ stop_mask s (demand_stop s))
      (ek : kept ≡ built (λ j. has demand j && not (has closed j)) 64) where
    has_kept : (j : ℕ) → j < 64 → has kept j ≡ (has demand j && not (has closed j))
    has_kept j l = ap (λ (n : ℕ). has n j) ek ∙ has_built (λ k. has demand k && not (has closed k)) j l

    -- they have a record, and their names are held
    pub kept_ids : HoldsIds s kept names
    kept_ids =
        record {
          held = h.held;
          above_zero = h.above_zero;
          rising = names_rise h;
          recorded = λ j l t.
              ltb-true j s.stops (both_left (ltb j s.stops) (demand_stop s j)
              (sym (mask_has (demand_stop s) demand ed j l) ∙ both_left (has demand j) (not (has closed j)) (sym (has_kept j l) ∙ t)));
        }

    module _ (cover : ℕ) (ex : closed ≡ built (closed_in s names) 64) (ec : cover ≡ built (λ j. has kept j && covered s j) 64) where
      -- less the covered ones that nobody is bound for
      pub pending_mask : (bound : ℕ) → bound ≡ stop_mask s (idle_bound s)
          → built (λ j. has kept j && not (has (built (λ k. has cover k && not (has bound k)) 64) j)) 64 ≡ stop_mask s (pending s)
      unfolding pending
      pending_mask bound eb =
          built_cong (λ j. has kept j && not (has (built (λ k. has cover k && not (has bound k)) 64) j)) (λ j. ltb j s.stops && pending s j) 64
          (λ j l.
          let hd = mask_has (demand_stop s) demand ed j l in
          let hb = mask_has (idle_bound s) bound eb j l in
          let hk = has_kept j l in
          let hc : has cover j ≡ (has kept j && covered s j) = ap (λ (n : ℕ). has n j) ec ∙ has_built (λ k. has kept k && covered s k) j l in
          ap (λ (x : Bool). has kept j && not x) (has_built (λ k. has cover k && not (has bound k)) j l)
          ∙ ⊎_elim
          (λ (k : j < s.stops).
          rw (hc, hk, hd, hb, lt-ltb j s.stops k, closed_has names closed h ex j l k)
          (pending_parts (demand_stop s j) (closed_at s j) (covered s j) (idle_bound s j)))
          (λ (k : s.stops ≤ j). rw (hc, hk, hd, hb, le-ltb j s.stops k))
          (less? j s.stops))

      -- where none is covered nothing is left out
      pub none_covered : cover ≡ 0 → kept ≡ stop_mask s (pending s)
      none_covered z =
          ek
          ∙ built_cong (λ j. has demand j && not (has closed j))
          (λ j. has kept j && not (has (built (λ k. has cover k && not (has (stop_mask s (idle_bound s)) k)) 64) j)) 64
          (λ j l.
          let none : (has cover j && not (has (stop_mask s (idle_bound s)) j)) ≡ false = rw (z, no_stop j l) refl in
          sym (ap (λ (x : Bool). has kept j && not x) (has_built (λ k. has cover k && not (has (stop_mask s (idle_bound s)) k)) j l ∙ none)
          ∙ and-true (has kept j) ∙ has_kept j l))
          ∙ pending_mask (stop_mask s (idle_bound s)) refl
