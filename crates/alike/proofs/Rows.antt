-- Alike sheets with the same bars have the same matrix, the same held cells and as many ranked pairs. Assumes nothing.
use Prim.Native.Nat.{ℕ, min, ◌<◌, ◌≤◌}
use Rattle.std.specs.Prelude.{◌≡◌, Bool, not, ◌&&◌}
use Rattle.std.proofs.Math.Path.{ap}
use Rattle.std.proofs.Common.{◌∙◌, ⊎_elim, lt-ltb, le-ltb}
use Rattle.std.proofs.Math.Dec.{eqb}
use Rattle.laws.specs.Bools.{less?}
use Rattle.laws.specs.Folds.{count, any_cong, count_cong, nth_is}
use Rattle.laws.specs.Sums.{sum, sum_cong}
use Rattle.mask.specs.Mask.{has}
use Rattle.components.specs.declared.Stop.{Stop}
use Rattle.components.specs.declared.Line.{Line}
use Rattle.components.specs.declared.Car.{Car}
use Rattle.components.specs.declared.Aboard.{Aboard}
use Rattle.components.specs.declared.Waiting.{Waiting}
use Rattle.components.specs.declared.Demand.{Demand}
use Rattle.components.specs.Sheet.{Sheet}
use Rattle.manifest.specs.World.{stop_id}
use Rattle.assignment.specs.Pending.{pending, idle, idle_cars, row_car, pending_stops, column_stop, columns}
use Rattle.assignment.specs.Candidates.{precedes, line_serves_of, viable_of, nearer_of, kept_of, viable, viable_stops, kept, away}
use Rattle.assignment.specs.Cells.{cell, matrix, held_cell, held_at, held_in_row, held_cells, ranked_pairs}
use Rattle.alike.specs.Alike.{Alike, other}
use Rattle.alike.specs.Stops.{same_pending, same_cars, same_row, same_stops, same_column, same_columns}
use Rattle.alike.proofs.Costs.{same_rank}

three : {a b c x y z : Bool} → a ≡ x → b ≡ y → c ≡ z → (a && (not b && c)) ≡ (x && (not y && z))
three e f g = cc

module _ (s : Sheet) (stop : ℕ → Stop) (line : ℕ → Line) (car : ℕ → Car) (aboard : ℕ → Aboard) (waiting : ℕ → Waiting)
    (demand : ℕ → Demand) (closed : ℕ → ℕ) (h : Alike s stop line car aboard waiting demand closed) where
  abbrev t : Sheet
  t = other s stop line car aboard waiting demand closed

  pub row_below : (r : ℕ) → r < idle_cars s → row_car s r < s.cars
  unfolding row_car idle_cars
  row_below r l = (nth_is (idle s) s.cars r l).below

  pub column_below : (c : ℕ) → c < pending_stops s → column_stop s c < s.stops
  unfolding column_stop pending_stops
  column_below c l = (nth_is (pending s) s.stops c l).below

  pub same_line : (i j : ℕ) → i < s.cars → line_serves_of s (s.car i) j ≡ line_serves_of t (car i) j
  unfolding line_serves_of
  same_line i j li =
      any_cong (λ l. eqb (s.line l).id (s.car i).line && has (s.line l).serves j) (λ l. eqb (line l).id (car i).line && has (line l).serves j)
      s.lines
      (λ l ll. rw (h.a_line l ll, (h.a_car i li).line))

  -- ---- with the same bars

  module _ (bars : (i : ℕ) → i < s.cars → (s.car i).restricted ≡ (car i).restricted) where
    same_viable : (i j : ℕ) → i < s.cars → j < s.stops → viable s i j ≡ viable t i j
    unfolding viable_of
    same_viable i j li lj =
        three (same_pending s stop line car aboard waiting demand closed h j lj) (ap (λ (m : ℕ). has m j) (bars i li)) (same_line i j li)

    same_nearer : (i j : ℕ) → i < s.cars → j < s.stops → nearer_of s (s.car i) j ≡ nearer_of t (car i) j
    unfolding nearer_of
    same_nearer i j li lj =
        count_cong (λ k. viable s i k && precedes (away s i k) (stop_id s k) (away s i j) (stop_id s j))
        (λ k. viable t i k && precedes (away t i k) (stop_id t k) (away t i j) (stop_id t j)) s.stops
        (λ k lk. rw (same_viable i k li lk, h.away i k li lk, h.away i j li lj, (h.a_stop k lk).id, (h.a_stop j lj).id))

    same_kept : (i limit j : ℕ) → i < s.cars → j < s.stops → kept s i limit j ≡ kept t i limit j
    unfolding kept_of
    same_kept i limit j li lj = rw (same_viable i j li lj, same_nearer i j li lj)

    same_cell : (limit i j : ℕ) → i < s.cars → j < s.stops → cell s limit i j ≡ cell t limit i j
    unfolding cell
    same_cell limit i j li lj = rw (same_kept i limit j li lj, same_rank s stop line car aboard waiting demand closed h i j li lj)

    pub same_matrix : (limit r c : ℕ) → r < idle_cars s → matrix s limit r c ≡ matrix t limit r c
    unfolding matrix
    same_matrix limit r c lr =
        rw (
          ← same_row s stop line car aboard waiting demand closed h r,
          ← same_column s stop line car aboard waiting demand closed h c,
          ← same_stops s stop line car aboard waiting demand closed h,
        )
        (⊎_elim
        (λ (l : c < pending_stops s).
        rw (lt-ltb c (pending_stops s) l) (same_cell limit (row_car s r) (column_stop s c) (row_below r lr) (column_below c l)))
        (λ (l : pending_stops s ≤ c). rw (le-ltb c (pending_stops s) l))
        (less? c (pending_stops s)))

    same_held_cell : (limit i j : ℕ) → i < s.cars → j < s.stops → held_cell s limit i j ≡ held_cell t limit i j
    unfolding held_cell
    same_held_cell limit i j li lj = rw (same_kept i limit j li lj, same_rank s stop line car aboard waiting demand closed h i j li lj)

    same_held_at : (limit r c : ℕ) → r < idle_cars s → held_at s limit r c ≡ held_at t limit r c
    unfolding held_at
    same_held_at limit r c lr =
        rw (
          ← same_row s stop line car aboard waiting demand closed h r,
          ← same_column s stop line car aboard waiting demand closed h c,
          ← same_stops s stop line car aboard waiting demand closed h,
        )
        (⊎_elim
        (λ (l : c < pending_stops s).
        rw (lt-ltb c (pending_stops s) l) (same_held_cell limit (row_car s r) (column_stop s c) (row_below r lr) (column_below c l)))
        (λ (l : pending_stops s ≤ c). rw (le-ltb c (pending_stops s) l))
        (less? c (pending_stops s)))

    same_held_row : (limit r : ℕ) → r < idle_cars s → held_in_row s limit r ≡ held_in_row t limit r
    unfolding held_in_row
    same_held_row limit r lr =
        count_cong (held_at s limit r) (held_at t limit r) (columns s) (λ c lc. same_held_at limit r c lr)
        ∙ ap (count (held_at t limit r)) (same_columns s stop line car aboard waiting demand closed h)

    pub same_held : (limit : ℕ) → held_cells s limit ≡ held_cells t limit
    unfolding held_cells
    same_held limit =
        sum_cong (idle_cars s) {f = held_in_row s limit} {g = held_in_row t limit} (λ r lr. same_held_row limit r lr)
        ∙ ap (λ (n : ℕ). sum n (held_in_row t limit)) (same_cars s stop line car aboard waiting demand closed h)

    same_viables : (i : ℕ) → i < s.cars → viable_stops s i ≡ viable_stops t i
    unfolding viable_stops
    same_viables i li = count_cong (viable s i) (viable t i) s.stops (λ j lj. same_viable i j li lj)

    pub same_ranked : (limit : ℕ) → ranked_pairs s limit ≡ ranked_pairs t limit
    unfolding ranked_pairs
    same_ranked limit =
        sum_cong (idle_cars s) {f = λ r. min limit (viable_stops s (row_car s r))} {g = λ r. min limit (viable_stops t (row_car t r))}
        (λ r lr.
        ap (min limit)
        (same_viables (row_car s r) (row_below r lr) ∙ ap (viable_stops t) (same_row s stop line car aboard waiting demand closed h r)))
        ∙ ap (λ (n : ℕ). sum n (λ r. min limit (viable_stops t (row_car t r)))) (same_cars s stop line car aboard waiting demand closed h)
