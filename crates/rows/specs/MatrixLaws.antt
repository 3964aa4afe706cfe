-- A row of cells is that of the sheet's matrix. Assumes nothing.
use Rattle.std.specs.Prelude.{Option}
use Rattle.components.specs.declared.Point.{Point}
use Rattle.std.specs.Prelude.{ℕ, ◌+◌, ◌*◌, ◌-◌, ◌≤◌, ◌<◌, ◌≡◌, refl, Bool, false, ◌&&◌, List, ◌++◌, ltb, length, get_or, take, drop, replicate, Float}
use Rattle.std.proofs.Math.Path.{sym, ap}
use Rattle.std.proofs.Common.{ap₂, ◌∙◌, arith, length-take, length-drop}
use Rattle.std.proofs.Math.Logic.{⊎_elim}
use borrow.Author.Tests.{lt-ltb, le-ltb}
use Rattle.laws.specs.Bools.{less?}
use Rattle.laws.specs.Folds.{count, count-le, count_cong, count_below, nth, nth_cong, nth_is, nth_below}
use Rattle.laws.specs.Tables.{tab, tabs, tab_cong, tabs_next, tabs-length, mul_next}
use Rattle.laws.specs.Sums.{sum, sum_next}
use Rattle.fp.specs.Num.{zero}
use Rattle.mask.specs.Mask.{has, built}
use Rattle.mask.specs.MaskLaws.{has_built}
use Rattle.mask.specs.declared.Ones.{Ones}
use Rattle.mask.specs.Ones.{ones_of, ones_count, ones_at}
use Rattle.components.specs.declared.Car.{Car}
use Rattle.components.specs.Sheet.{Sheet}
use Rattle.components.specs.declared.Policy.{Policy}
use Rattle.components.specs.declared.Strategy.TheVariants.{Etd}
use Rattle.etd.specs.Halts.{HoldsCounts}
use Rattle.layout.specs.declared.Counts.{Counts}
use Rattle.layout.specs.Offsets.{Small}
use Rattle.layout.specs.Records.{sheet_of}
use Rattle.manifest.specs.World.{goal_of}
use Rattle.manifest.specs.declared.Waiters.{Waiters}
use Rattle.manifest.specs.Stops.{HoldsStops, sides_of, position_in}
use Rattle.riders.specs.declared.Riders.{Riders}
use Rattle.riders.specs.Riders.{riders_in, dests_in}
use Rattle.dispatch.specs.WaitersLaws.{Weighed, HoldsWaiters}
use Rattle.assignment.specs.Pending.{pending, pending_stops, column_stop, idle_cars, row_car}
use Rattle.assignment.specs.Candidates.{kept, kept_of}
use Rattle.assignment.specs.Cells.{matrix, held_cell, held_in_row}
use Rattle.assignment.proofs.CellLaws.{held_in_row_lem, pending_le}
use Rattle.pending.specs.declared.StopMasks.{StopMasks}
use Rattle.pending.specs.Masks.{stop_mask, pending_are}
use Rattle.sweep.specs.declared.Sweep.{Sweep}
use Rattle.dispatch.specs.declared.Row.{Row}
use Rattle.ranking.specs.Ranking.{sweep_by}
use Rattle.ranking.specs.RankingLaws.{HoldsRow, cell_is, held_is}
use Rattle.rows.specs.declared.Counted.{Counted}
use Rattle.rows.specs.KeptLaws.{kept_number}
use Rattle.rows.specs.Gathered.{waiters_at}
use Rattle.rows.specs.HeldLaws.{Held, row_held_lem}
use Rattle.rows.specs.RowLaws.{row_cell, row_held, padded}

-- ---- the pending stops, listed from their mask, are the columns'; the idle cars, the rows'

-- the numbers below n that pass, as a mask of 64
module _ (p : ℕ → Bool) (n : ℕ) (few : n ≤ 64) (mask : ℕ) (e : mask ≡ built (λ j. ltb j n && p j) 64) where
  whole : n + (64 - n) ≡ 64
  whole = omega arith

  mask_at : (j : ℕ) → j < 64 → has mask j ≡ (ltb j n && p j)
  mask_at j l = ap (λ (m : ℕ). has m j) e ∙ has_built (λ k. ltb k n && p k) j l

  inside : (j : ℕ) → j < n → has mask j ≡ p j
  inside j l = mask_at j (omega arith) ∙ rw (lt-ltb j n l)

  past : (j : ℕ) → n ≤ j → j < n + (64 - n) → has mask j ≡ false
  past j a b = mask_at j (omega arith) ∙ rw (le-ltb j n a)

  pub masked_count : count (has mask) 64 ≡ count p n
  masked_count =
      ap (count (has mask)) (sym whole) ∙ count_below (has mask) n (64 - n) past ∙ count_cong (has mask) p n inside

  masked_nth : (c : ℕ) → nth (has mask) 64 c ≡ nth p n c
  masked_nth c =
      ap (λ (z : ℕ). nth (has mask) z c) (sym whole) ∙ nth_below (has mask) n (64 - n) c past ∙ nth_cong (has mask) p n c inside

  module _ (ones : Ones) (h : ones ≡ ones_of mask) where
    pub listed_number : ones.count ≡ count p n
    listed_number = ones_count mask h ∙ masked_count

    pub listed_at : (k : ℕ) → k < ones.count → get_or ones.at k 0 ≡ nth p n k
    listed_at k l = ones_at mask h k l ∙ masked_nth k

    pub listed_below : (k : ℕ) → k < ones.count → nth p n k < n
    listed_below k l = (nth_is p n k (omega (arith, listed_number))).below

module _ (s : Sheet) (few : s.stops ≤ 64) (mask : ℕ) (e : mask ≡ stop_mask s (pending s)) (stops : Ones) (h : stops ≡ ones_of mask) where
  pub listed_count : stops.count ≡ pending_stops s
  unfolding pending_stops
  listed_count = listed_number (pending s) s.stops few mask e stops h

  pub listed_stop : (k : ℕ) → k < stops.count → get_or stops.at k 0 ≡ column_stop s k
  unfolding column_stop
  listed_stop = listed_at (pending s) s.stops few mask e stops h

  pub column_below : (k : ℕ) → k < stops.count → column_stop s k < s.stops
  unfolding column_stop
  column_below = listed_below (pending s) s.stops few mask e stops h

  -- ---- the cells

  pub cells_are : (ids : List ℕ) (xs : List Float) → HoldsStops s ids xs s.stops → (r limit : ℕ) → Weighed s (row_car s r)
      → (row : Row) (dests sides : List Float) → HoldsRow s (row_car s r) limit row dests sides → (waiters : ℕ → Waiters)
      → ((j : ℕ) → j < s.stops → HoldsWaiters s j (waiters j)) → (k : ℕ)
      → padded (row_cell row dests sides waiters xs s.stops stops) stops.count k ≡ matrix s limit r k
  unfolding padded row_cell matrix
  cells_are ids xs hs r limit weighed row dests sides hr waiters hw k =
      let same = listed_count in
      ⊎_elim
      (λ (l : k < stops.count).
      let b = column_below k l in
      rw (lt-ltb k stops.count l, lt-ltb k (pending_stops s) (omega arith), listed_stop k l)
      (cell_is s ids xs hs (row_car s r) limit weighed row dests sides hr (column_stop s k) (waiters (column_stop s k))
      (hw (column_stop s k) b) b))
      (λ (l : stops.count ≤ k). rw (le-ltb k stops.count l, le-ltb k (pending_stops s) (omega arith)))
      (less? k stops.count)

  pub row_is : (ids : List ℕ) (xs : List Float) → HoldsStops s ids xs s.stops → (r limit : ℕ) → Weighed s (row_car s r)
      → (row : Row) (dests sides : List Float) → HoldsRow s (row_car s r) limit row dests sides → (waiters : ℕ → Waiters)
      → ((j : ℕ) → j < s.stops → HoldsWaiters s j (waiters j)) → (n : ℕ)
      → tab (padded (row_cell row dests sides waiters xs s.stops stops) stops.count) n ≡ tab (matrix s limit r) n
  row_is ids xs hs r limit weighed row dests sides hr waiters hw n =
      tab_cong (padded (row_cell row dests sides waiters xs s.stops stops) stops.count) (matrix s limit r) n
      (λ k l. cells_are ids xs hs r limit weighed row dests sides hr waiters hw k)

  -- so many are held
  pub held_are : (ids : List ℕ) (xs : List Float) → HoldsStops s ids xs s.stops → (r limit : ℕ) → Weighed s (row_car s r)
      → (row : Row) (dests sides : List Float) → HoldsRow s (row_car s r) limit row dests sides → (waiters : ℕ → Waiters)
      → ((j : ℕ) → j < s.stops → HoldsWaiters s j (waiters j))
      → count (row_held row dests sides waiters xs s.stops stops) stops.count ≡ held_in_row s limit r
  unfolding row_held
  held_are ids xs hs r limit weighed row dests sides hr waiters hw =
      count_cong (row_held row dests sides waiters xs s.stops stops) (λ c. held_cell s limit (row_car s r) (column_stop s c)) stops.count
      (λ k l.
      let b = column_below k l in
      rw (listed_stop k l)
      (held_is s ids xs hs (row_car s r) limit weighed row dests sides hr (column_stop s k) (waiters (column_stop s k))
      (hw (column_stop s k) b) b))
      ∙ ap (count (λ c. held_cell s limit (row_car s r) (column_stop s c))) listed_count ∙ sym (held_in_row_lem s limit r)

-- the mask of the stops that a car is ranked for has so many
pub kept_size : (s : Sheet) (limit m : ℕ) (car : Car) → s.stops ≤ 64 → m ≡ stop_mask s (kept_of s car limit)
    → count (has m) 64 ≡ count (kept_of s car limit) s.stops
kept_size s limit m car few e = masked_count (kept_of s car limit) s.stops few m e

-- the row of a car by value, from what is held of the sheet
unfoldable pub row_for : Sheet → List ℕ → List Float → List ℕ → List ℕ → StopMasks → ℕ → Car → Row
row_for s ids xs acar adest masks limit car =
    record {
      policy = s.policy;
      car = car;
      sweep = sweep_by s.policy.strategy car masks.pending masks.demand xs s.stops;
      goal = goal_of (position_in ids xs s.stops) car.phase;
      riders = riders_in ids s.stops acar adest car.id s.aboards;
      demand = masks.demand;
      kept = stop_mask s (kept_of s car limit);
    }

pub row_for_is : (s : Sheet) (ids : List ℕ) (xs : List Float) (acar adest : List ℕ) (masks : StopMasks) (limit : ℕ) (policy : Policy) (car : Car)
    (sweep : Sweep) (goal : Option Point) (riders : Riders) (kept : ℕ)
    → policy ≡ s.policy → riders ≡ riders_in ids s.stops acar adest car.id s.aboards
    → goal ≡ goal_of (position_in ids xs s.stops) car.phase → sweep ≡ sweep_by policy.strategy car masks.pending masks.demand xs
    s.stops
    → kept ≡ stop_mask s (kept_of s car limit)
    → record { policy = policy; car = car; sweep = sweep; goal = goal; riders = riders; demand = masks.demand; kept = kept } ≡ row_for s ids xs acar
    adest masks limit car
unfolding row_for
row_for_is s ids xs acar adest masks limit policy car sweep goal riders kept ep er eg es ek = rw (es, ep, er, eg, ek) refl

-- it is the row of the record that the car is
pub record RowOf (s : Sheet) (limit : ℕ) (car : Car) (row : Row) (dests sides : List Float) : Type 0 where
  pub held : (i : ℕ) → car ≡ s.car i → HoldsRow s i limit row dests sides

pub row_of : (s : Sheet) (ids : List ℕ) (xs : List Float) (acar adest : List ℕ) (masks : StopMasks) → Held s ids xs acar adest masks
    → (limit : ℕ) (car : Car) (row : Row) (entry side-entry : List Float) {dests sides : List Float}
    → row ≡ row_for s ids xs acar adest masks limit car
    → dests ≡ dests_in ids s.stops acar adest car.id xs s.aboards ++ drop row.riders.count entry
    → sides ≡ dests_in ids s.stops acar adest car.id (sides_of xs) s.aboards ++ drop row.riders.count side-entry
    → RowOf s limit car row dests sides
unfolding row_for
row_of s ids xs acar adest masks h limit car row entry side-entry er ed es =
    let riders : row.riders ≡ riders_in ids s.stops acar adest car.id s.aboards = ap (λ (r : Row). r.riders) er in
    record {
      held = λ i e.
          rw er
          (row_held_lem s ids xs acar adest masks h i limit s.policy car
          (sweep_by s.policy.strategy car masks.pending masks.demand xs s.stops)
          (goal_of (position_in ids xs s.stops) car.phase) (riders_in ids s.stops acar adest car.id s.aboards)
          (stop_mask s (kept_of s car limit))
          refl e (record { answered = refl; held = rw riders at ed; aside = rw riders at es }) refl refl refl);
    }

-- a buffer of n cells that holds the row of car i, whichever row that is, with so many cells held
pub record FilledRow (s : Sheet) (limit i n held : ℕ) (exit : List ℕ) : Type 0 where
  pub row : (r : ℕ) → row_car s r ≡ i → exit ≡ tab (matrix s limit r) n
  pub held_cells_lem : (r : ℕ) → row_car s r ≡ i → held ≡ held_in_row s limit r

-- ---- what the pass has at hand when it fills rows

pub record Ready (s : Sheet) (ids : List ℕ) (xs : List Float) (acar adest : List ℕ) (masks : StopMasks) (waiters : ℕ → Waiters)
    (stops : Ones) : Type 0 where
  pub held : Held s ids xs acar adest masks
  pub waiting : (j : ℕ) → j < s.stops → HoldsWaiters s j (waiters j)
  pub weighed : (i : ℕ) → i < s.cars → Weighed s i
  pub listed : stops ≡ ones_of masks.pending

module _ (s : Sheet) (ids : List ℕ) (xs : List Float) (acar adest : List ℕ) (masks : StopMasks) (waiters : ℕ → Waiters) (stops : Ones)
    (h : Ready s ids xs acar adest masks waiters stops) where
  pub ready_few : stops.count ≤ 64
  ready_few = let few = count-le (has masks.pending) 64 in omega (arith, ones_count masks.pending h.listed)

  pub ready_below : (k : ℕ) → k < stops.count → get_or stops.at k 0 < s.stops
  ready_below k l =
      rw (listed_stop s h.held.few masks.pending (pending_are s h.held.masks_are) stops h.listed k l)
      (column_below s h.held.few masks.pending (pending_are s h.held.masks_are) stops h.listed k l)

  pub ready_row : (i limit : ℕ) (row : Row) {dests sides : List Float} → i < s.cars → HoldsRow s i limit row dests sides → (r n : ℕ)
      → row_car s r ≡ i
      → tab (padded (row_cell row dests sides waiters xs s.stops stops) stops.count) n ≡ tab (matrix s limit r) n
  ready_row i limit row {dests} {sides} l hr r n e =
      row_is s h.held.few masks.pending (pending_are s h.held.masks_are) stops h.listed ids xs h.held.stops_held r limit
      (rw e (h.weighed i l)) row dests sides
      (rw e hr) waiters h.waiting n

  pub ready_held : (i limit : ℕ) (row : Row) {dests sides : List Float} → i < s.cars → HoldsRow s i limit row dests sides → (r : ℕ)
      → row_car s r ≡ i
      → count (row_held row dests sides waiters xs s.stops stops) stops.count ≡ held_in_row s limit r
  ready_held i limit row {dests} {sides} l hr r e =
      held_are s h.held.few masks.pending (pending_are s h.held.masks_are) stops h.listed ids xs h.held.stops_held r limit
      (rw e (h.weighed i l)) row dests sides
      (rw e hr) waiters h.waiting

-- what rows need, each in a buffer of some cells
pub record RowsNeed (b : List ℕ) (c : Counts) (ids : List ℕ) (xs : List Float) (acar adest : List ℕ) (masks : StopMasks) (someone : ℕ)
    (sums : List Float) (stops : Ones) (cells : ℕ) : Type 0 where
  pub small : Small c
  pub ids_size : length ids ≡ 64
  pub xs_size : length xs ≡ 128
  pub acar_size : length acar ≡ 512
  pub adest_size : length adest ≡ 512
  pub sums_size : length sums ≡ 320
  pub fits : stops.count ≤ cells
  pub ready : Ready (sheet_of b c) ids xs acar adest masks (waiters_at someone masks.calls sums) stops

-- what the row of a car needs: these, the policy, and under ETD the counts of the stops
pub record CarNeeds (b : List ℕ) (c : Counts) (policy : Policy) (ids : List ℕ) (xs : List Float) (acar adest : List ℕ) (masks : StopMasks)
    (someone : ℕ) (sums : List Float) (stops : Ones) (table : List ℕ) (cells : ℕ) : Type 0 where
  pub rows : RowsNeed b c ids xs acar adest masks someone sums stops cells
  pub policy_is : policy ≡ (sheet_of b c).policy
  pub counted : policy.strategy ≡ Etd → HoldsCounts masks.demand xs c.stops table

-- a coordinate of the known destinations of a car's riders, in a buffer
unfoldable pub dests_for : Sheet → List ℕ → List Float → List ℕ → List ℕ → Car → List Float → List Float
dests_for s ids xs acar adest car buffer =
    dests_in ids s.stops acar adest car.id xs s.aboards ++ drop (riders_in ids s.stops acar adest car.id s.aboards).count buffer

-- n cells hold the row of a car by value, so many of its pairs are ranked, and so many of its cells are held; the known destinations of its riders
-- stood in two buffers
pub record FilledCar (s : Sheet) (ids : List ℕ) (xs : List Float) (acar adest : List ℕ) (masks : StopMasks) (waiters : ℕ → Waiters) (stops : Ones)
    (limit : ℕ) (car : Car) (n : ℕ) (counted : Counted) (exit : List ℕ) : Type 0 where
  pub buffer : List Float
  pub aside : List Float
  pub row : exit ≡ tab (padded (row_cell (row_for s ids xs acar adest masks limit car) (dests_for s ids xs acar adest car buffer)
      (dests_for s ids (sides_of xs) acar adest car aside) waiters xs s.stops stops) stops.count) n
  pub number : counted.ranked ≡ count (kept_of s car limit) s.stops
  pub held_cells_lem : counted.held ≡ count (row_held (row_for s ids xs acar adest masks limit car) (dests_for s ids xs acar adest car buffer)
      (dests_for s ids (sides_of xs) acar adest car aside) waiters xs s.stops stops) stops.count

-- the row of a car that is record i
pub filled_at : (s : Sheet) (ids : List ℕ) (xs : List Float) (acar adest : List ℕ) (masks : StopMasks) (waiters : ℕ → Waiters) (stops : Ones)
    → Ready s ids xs acar adest masks waiters stops → (limit i n : ℕ) (counted : Counted) (car : Car) (exit : List ℕ) → car ≡ s.car i
    → i < s.cars → FilledCar s ids xs acar adest masks waiters stops limit car n counted exit
    → FilledRow s limit i n counted.held exit × (counted.ranked ≡ kept_number s limit i)
unfolding dests_for kept_number row_for
filled_at s ids xs acar adest masks waiters stops h limit i n counted car exit e l f =
    let row = row_of s ids xs acar adest masks h.held limit car (row_for s ids xs acar adest masks limit car) f.buffer
    f.aside refl refl refl in (
      record {
        row = λ r q. f.row ∙ ready_row s ids xs acar adest masks waiters stops h i limit (row_for s ids xs acar adest masks limit car) l
            (row.held i e) r n q;
        held_cells_lem = λ r q. f.held_cells_lem ∙ ready_held s ids xs acar adest masks waiters stops h i limit (row_for s ids xs acar adest masks limit car)
            l (row.held i e) r q;
      },
      f.number ∙ count_cong (kept_of s car limit) (kept s i limit) s.stops (λ j _. ap (λ (k : Car). kept_of s k limit j) e),
    )

-- a car is ranked for no more than 64 stops
pub kept_few : (s : Sheet) (limit i : ℕ) → s.stops ≤ 64 → kept_number s limit i ≤ 64
unfolding kept_number
kept_few s limit i few = omega (arith, count-le (kept s i limit) s.stops)

-- no more of its cells are held
pub held_few : (s : Sheet) (limit r : ℕ) → s.stops ≤ 64 → held_in_row s limit r ≤ 64
held_few s limit r few =
    omega (arith, held_in_row_lem s limit r, count-le (λ c. held_cell s limit (row_car s r) (column_stop s c)) (pending_stops s), pending_le s)

-- ---- the rows

-- the idle cars are listed
pub record Rows (s : Sheet) (idle : Ones) : Type 0 where
  pub number : idle.count ≡ idle_cars s
  pub few : idle.count ≤ 32
  pub car_of : (r : ℕ) → r < idle.count → get_or idle.at r 0 ≡ row_car s r
  pub below : (r : ℕ) → r < idle.count → row_car s r < s.cars

-- n rows stand in the buffer, so many of their pairs are ranked, and so many of their cells are held
pub record FilledRows (s : Sheet) (limit n columns : ℕ) (entry : List ℕ) (counted : Counted) (exit : List ℕ) : Type 0 where
  pub size : length exit ≡ length entry
  pub rows : exit ≡ tabs (matrix s limit) columns n ++ drop (n * columns) entry
  pub ranked : counted.ranked ≡ sum n (λ r. kept_number s limit (row_car s r))
  pub held : counted.held ≡ sum n (held_in_row s limit)

-- r rows stand up to a cell
pub record Filling (s : Sheet) (limit columns r at : ℕ) (entry : List ℕ) (ranked held : ℕ) (now : List ℕ) : Type 0 where
  pub near : at ≤ r * 64
  pub exact : at ≡ r * columns
  pub few : ranked ≤ r * 64
  pub few_held : held ≤ r * 64
  pub filled : FilledRows s limit r columns entry (record { ranked = ranked; held = held }) now

pub filling_start : (s : Sheet) (limit columns : ℕ) (entry : List ℕ) → Filling s limit columns 0 0 entry 0 0 entry
unfolding tabs sum
filling_start s limit columns entry =
    let none : 0 ≡ 0 * columns = omega arith in
    record {
      near = omega arith;
      exact = none;
      few = omega arith;
      few_held = omega arith;
      filled = record { size = refl; rows = ap (λ (z : ℕ). drop z entry) none; ranked = refl; held = refl };
    }

-- a row of the buffer, lent
pub part_length : (at columns : ℕ) (now : List ℕ) → at + columns ≤ length now → length (take (at + columns - at) (drop at now)) ≡ columns
part_length at columns now l = simp (length-take, length-drop) (omega arith)

pub filling_next : (s : Sheet) (limit columns r at i ranked held k n : ℕ) (counted : Counted) (entry now row : List ℕ) → columns ≤ 64 → s.stops ≤ 64
    → at + columns ≤ length entry
    → Filling s limit columns r at entry ranked held now → row_car s r ≡ i → k ≡ columns → n ≡ columns → FilledRow s limit i n counted.held row
    → counted.ranked ≡ kept_number s limit i
    → Filling s limit columns (r + 1) (at + columns) entry (ranked + counted.ranked) (held + counted.held)
    (take at now ++ (row ++ drop k (drop at now)))
unfolding kept_number
filling_next s limit columns r at i ranked held k n counted entry now row lc few room h e ek en f number =
    let q : at + columns ≡ (r + 1) * columns = omega (arith, mul_next r columns, h.exact) in
    let rows : take at now ++ (row ++ drop k (drop at now)) ≡ tabs (matrix s limit) columns (r + 1) ++ drop (at + columns) entry =
    tabs_next (matrix s limit) columns r at k n entry now row h.exact
    (h.filled.rows ∙ ap (λ (z : ℕ). tabs (matrix s limit) columns r ++ drop z entry) (sym h.exact)) ek (f.row r e) en in
    record {
      near = omega (arith, h.near);
      exact = q;
      few = omega (arith, h.few, number, count-le (kept s i limit) s.stops);
      few_held = omega (arith, h.few_held, f.held_cells_lem r e, held_few s limit r few);
      filled = record {
        size = tabs-length (matrix s limit) columns (r + 1) (at + columns) entry _ q room rows;
        rows = rows ∙ ap (λ (z : ℕ). tabs (matrix s limit) columns (r + 1) ++ drop z entry) q;
        ranked = ap₂ (λ (a b : ℕ). a + b) h.filled.ranked (number ∙ ap (kept_number s limit) (sym e))
            ∙ sym (sum_next r (λ x. kept_number s limit (row_car s x)));
        held = ap₂ (λ (a b : ℕ). a + b) h.filled.held (f.held_cells_lem r e) ∙ sym (sum_next r (held_in_row s limit));
      };
    }
