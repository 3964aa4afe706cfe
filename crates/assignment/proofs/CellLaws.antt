-- What cells tell, and how they move with the limit. Assumes nothing.
--   cell_le matrix_le          every cell is at most the sentinel
--   cell_kept cell_viable      a cell below it belongs to a kept, hence viable, pair
--   cell_mono matrix_mono      a higher limit raises no cell
--   held_ceiling               a held cell is at the ceiling, hence of a viable pair and no sentinel
--   unlimited                  with no limit the order of the stops plays no part
--   no_stop no_car             sheets where the Rust builds no matrix
use Rattle.std.specs.Prelude.{None, Option, Some}
use Rattle.std.specs.Float.{Float}
use Prim.Native.Nat.{ℕ, ◌<◌, ◌≤◌, ◌+◌, ◌-◌, ◌*◌, max}
use Rattle.std.specs.Prelude.{◌≡◌, refl, Bool, not, ◌&&◌, eqb}
use Rattle.std.proofs.Common.{sym, ◌∙◌, true≢false, mul-le-mul}
use Rattle.std.proofs.Math.Path.{ap}
use Rattle.std.proofs.Math.Bool.{true, false, cond}
use Rattle.std.proofs.Math.Logic.{⊎_elim}
use native.Mathlib.Omega.{arith}
use Rattle.std.proofs.Math.Dec.{ltb}
use borrow.Author.Tests.{eqb-true, eq-eqb, ltb-true, ltb-false, lt-ltb, le-ltb, not-true}
use Rattle.laws.specs.Bools.{both, both_left, both_right, either, either_left, either_right, which}
use Rattle.laws.specs.Folds.{count, count-le, count_cong, count_below, Nth, nth_is}
use Rattle.laws.specs.Sums.{sum}
use Rattle.scale.specs.Scale.{sentinel, ceiling, scale_cost_le, held_ceiling as scaled-ceiling}
use Rattle.components.specs.Sheet.{Sheet}
use Rattle.assignment_problem.specs.Choice.{total}
use Rattle.assignment_problem.proofs.Chosen.{chosen_total}
use Rattle.assignment_problem.specs.Recursion.{column_of}
use Rattle.assignment.specs.Pending.{pending, idle, idle_cars, row_car, pending_stops, column_stop, columns}
use Rattle.assignment.specs.Candidates.{no_limit, keeps, line_serves, barred, viable, nearer, kept, kept_of, viable_of}
use Rattle.assignment.specs.Cells.{rank, rank_cell, rank_held, cell, held_cell, matrix, held_at, held_in_row, held_cells, goes, answered_total}

-- ---- every cell is at most the sentinel

pub rank_cell_le : (r : Option Float) → rank_cell r ≤ sentinel
rank_cell_le (Some x) = scale_cost_le x
rank_cell_le None = omega arith

module _ (s : Sheet) (limit : ℕ) where
  pub cell_le : (i j : ℕ) → cell s limit i j ≤ sentinel
  unfolding cell
  cell_le i j = ⊎_elim (λ e. rw e (rank_cell_le (rank s i j))) (λ e. rw e (omega arith)) (which (kept s i limit j))

  pub matrix_le : (r c : ℕ) → matrix s limit r c ≤ sentinel
  unfolding matrix
  matrix_le r c = ⊎_elim (λ e. rw e (cell_le (row_car s r) (column_stop s c))) (λ e. rw e (omega arith)) (which (ltb c (pending_stops s)))

  -- ---- a cell below the sentinel belongs to a kept pair

  pub cell_kept : (i j : ℕ) → cell s limit i j < sentinel → kept s i limit j ≡ true
  unfolding cell
  cell_kept i j h =
      ⊎_elim
      (λ e. e)
      (λ (e : kept s i limit j ≡ false). absurd (let z : sentinel < sentinel = rw e at h in omega arith))
      (which (kept s i limit j))

  pub cell_viable : (i j : ℕ) → cell s limit i j < sentinel → viable s i j ≡ true
  unfolding kept_of
  cell_viable i j h = both_left (viable s i j) (keeps limit (nearer s i j)) (cell_kept i j h)

  -- a row that goes to a column: the column is a pending stop's, and the cell is that of a viable pair
  pub record Goes (r c : ℕ) : Type 0 where
    pub is_column : Nth (pending s) s.stops c (column_stop s c)
    pub its_cell : matrix s limit r c ≡ cell s limit (row_car s r) (column_stop s c)
    pub below : cell s limit (row_car s r) (column_stop s c) < sentinel

  pub goes_is : (r c : ℕ) → goes s limit r c ≡ true → Goes r c
  unfolding goes matrix pending_stops column_stop
  goes_is r c e =
      let t = both_left (ltb c (pending_stops s)) (ltb (matrix s limit r c) sentinel) e in
      let u = both_right (ltb c (pending_stops s)) (ltb (matrix s limit r c) sentinel) e in
      let p : matrix s limit r c ≡ cell s limit (row_car s r) (column_stop s c) = rw t in
      let v = ltb-true (matrix s limit r c) sentinel u in
      record { is_column = nth_is (pending s) s.stops c (ltb-true c (pending_stops s) t); its_cell = p; below = omega arith }

  -- one that stays pays the sentinel
  pub stays : (r c : ℕ) → goes s limit r c ≡ false → matrix s limit r c ≡ sentinel
  unfolding goes matrix
  stays r c e =
      ⊎_elim
      (λ (t : ltb c (pending_stops s) ≡ true).
      let q : matrix s limit r c ≡ cell s limit (row_car s r) (column_stop s c) = rw t in
      let u : ltb (cell s limit (row_car s r) (column_stop s c)) sentinel ≡ false = rw t at e in
      let v = ltb-false (cell s limit (row_car s r) (column_stop s c)) sentinel u in
      omega (arith, cell_le (row_car s r) (column_stop s c)))
      (λ (t : ltb c (pending_stops s) ≡ false). rw t)
      (which (ltb c (pending_stops s)))

pub viable_parts : (s : Sheet) (i j : ℕ) → viable s i j ≡ true → (pending s j ≡ true) × (barred s i j ≡ false)
    × (line_serves s i j ≡ true)
unfolding viable_of
viable_parts s i j h =
    let p = both_right (pending s j) (not (barred s i j) && line_serves s i j) h in (
      both_left (pending s j) (not (barred s i j) && line_serves s i j) h,
      not-true (barred s i j) (both_left (not (barred s i j)) (line_serves s i j) p),
      both_right (not (barred s i j)) (line_serves s i j) p,
    )

-- ---- held cells

rank_ceiling : (r : Option Float) → rank_held r ≡ true → rank_cell r ≡ ceiling
rank_ceiling (Some x) h = scaled-ceiling x h
rank_ceiling None h = absurd (true≢false (sym h))

module _ (s : Sheet) (limit : ℕ) where
  held_cell_lem : (i j : ℕ) → held_cell s limit i j ≡ true → cell s limit i j ≡ ceiling
  unfolding cell held_cell
  held_cell_lem i j h =
      rw (both_left (kept s i limit j) (rank_held (rank s i j)) h)
      (rank_ceiling (rank s i j) (both_right (kept s i limit j) (rank_held (rank s i j)) h))

  pub held_ceiling : (r c : ℕ) → held_at s limit r c ≡ true → matrix s limit r c ≡ ceiling
  unfolding matrix held_at
  held_ceiling r c h =
      rw (both_left (ltb c (pending_stops s)) (held_cell s limit (row_car s r) (column_stop s c)) h)
      (held_cell_lem (row_car s r) (column_stop s c) (both_right (ltb c (pending_stops s)) (held_cell s limit (row_car s r) (column_stop s c)) h))

  -- only the columns of the pending stops count
  pub held_in_row_lem : (r : ℕ) → held_in_row s limit r ≡ count (λ c. held_cell s limit (row_car s r) (column_stop s c)) (pending_stops s)
  unfolding held_in_row held_at columns
  held_in_row_lem r =
      let m = pending_stops s in
      let rest : m + (max (idle_cars s) m - m) ≡ max (idle_cars s) m = omega arith in
      ap (count (held_at s limit r)) (sym rest)
      ∙ count_below (held_at s limit r) m (max (idle_cars s) m - m) (λ c l _. rw (le-ltb c m l))
      ∙ count_cong (held_at s limit r) (λ c. held_cell s limit (row_car s r) (column_stop s c)) m (λ c l. rw (lt-ltb c m l))

-- ---- a higher limit keeps at least as much, so no cell rises

keeps_mono : (a b c : ℕ) → a ≤ b → b ≤ no_limit → keeps a c ≡ true → keeps b c ≡ true
unfolding keeps
keeps_mono a b c l m h =
    ⊎_elim
    (λ e. let q = eqb-true a no_limit e in either_left (eqb b no_limit) (ltb c b) (eq-eqb b no_limit (omega arith)))
    (λ e. let q = ltb-true c a e in either_right (eqb b no_limit) (ltb c b) (lt-ltb c b (omega arith)))
    (either (eqb a no_limit) (ltb c a) h)

-- where a weaker test passes, the value is no larger
falls : (a b : Bool) {x y : ℕ} → (a ≡ true → b ≡ true) → x ≤ y → cond b x y ≤ cond a x y
falls true true h l = omega arith
falls true false h l = absurd (true≢false (sym (h refl)))
falls false true h l = l
falls false false h l = omega arith

module _ (s : Sheet) (a b : ℕ) (l : a ≤ b) (m : b ≤ no_limit) where
  pub kept_mono : (i j : ℕ) → kept s i a j ≡ true → kept s i b j ≡ true
  unfolding kept_of
  kept_mono i j h =
      both
      (both_left (viable s i j) (keeps a (nearer s i j)) h)
      (keeps_mono a b (nearer s i j) l m (both_right (viable s i j) (keeps a (nearer s i j)) h))

  pub cell_mono : (i j : ℕ) → cell s b i j ≤ cell s a i j
  unfolding cell
  cell_mono i j = falls (kept s i a j) (kept s i b j) (kept_mono i j) (rank_cell_le (rank s i j))

  pub matrix_mono : (r c : ℕ) → matrix s b r c ≤ matrix s a r c
  unfolding matrix
  matrix_mono r c = go (ltb c (pending_stops s))
    where
      go : (t : Bool) → cond t (cell s b (row_car s r) (column_stop s c)) sentinel ≤ cond t (cell s a (row_car s r) (column_stop s c)) sentinel
      go true = cell_mono (row_car s r) (column_stop s c)
      go false = omega arith

-- ---- with no limit the order of the stops plays no part

pub unlimited : (s : Sheet) (i j : ℕ) → cell s no_limit i j ≡ cond (viable s i j) (rank_cell (rank s i j)) sentinel
unfolding cell kept_of keeps
unlimited s i j = go (viable s i j)
  where
    go : (v : Bool) → cond (v && true) (rank_cell (rank s i j)) sentinel ≡ cond v (rank_cell (rank s i j)) sentinel
    go true = refl
    go false = refl

-- ---- sizes: n cars in max(n, m) columns

pub rows_fit : (s : Sheet) → idle_cars s ≤ columns s
unfolding columns
rows_fit s = omega arith

pub idle_le : (s : Sheet) → idle_cars s ≤ s.cars
unfolding idle_cars
idle_le s = count-le (idle s) s.cars

pub pending_le : (s : Sheet) → pending_stops s ≤ s.stops
unfolding pending_stops
pending_le s = count-le (pending s) s.stops

-- "n × columns cells": the least buffers hold what a pass writes
pub record SmallSheet (s : Sheet) : Type 0 where
  pub cars : s.cars ≤ 32
  pub stops : s.stops ≤ 64

pub columns_le : (s : Sheet) → SmallSheet s → columns s ≤ 64
unfolding columns
columns_le s h = omega (arith, idle_le s, pending_le s, h.cars, h.stops)

pub cells_fit : (s : Sheet) → SmallSheet s → idle_cars s * columns s ≤ 2048
cells_fit s h = mul-le-mul {n₁ = idle_cars s} {m₁ = columns s} {n₂ = 32} {m₂ = 64} (omega (arith, idle_le s, h.cars)) (columns_le s h)

-- ---- sheets where the Rust builds no matrix

-- with no pending stop every cell is the sentinel
pub no_stop : (s : Sheet) (limit r c : ℕ) → pending_stops s ≡ 0 → matrix s limit r c ≡ sentinel
unfolding matrix
no_stop s limit r c e = rw (le-ltb c (pending_stops s) (omega arith))

-- "total (0 with no idle car)"
pub no_car : (s : Sheet) (limit : ℕ) → idle_cars s ≡ 0 → answered_total s limit ≡ 0
unfolding answered_total total sum
no_car s limit e = chosen_total (matrix s limit) (idle_cars s) (columns s) (rows_fit s)
    ∙ ap (λ n. sum n (λ i. matrix s limit i (column_of (matrix s limit) (idle_cars s) (columns s) i))) e
