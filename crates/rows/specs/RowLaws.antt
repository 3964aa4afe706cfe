-- A row of the matrix, from what the code holds. Assumes nothing.
use Rattle.std.specs.Prelude.{ℕ, ◌+◌, ◌≤◌, ◌<◌, ◌≡◌, refl, Bool, true, false, cond, List, ◌++◌, ltb, length, get_or, drop, set, Float}
use Rattle.std.proofs.Common.{sym, ap, ◌∙◌, ⊎_elim, arith, length-set, get_or-set_same, get_or-set_other, ext_get_or, lt-ltb, le-ltb}
use Rattle.std.specs.Float.{nan}
use Rattle.laws.specs.Bools.{same?, less?}
use Rattle.laws.specs.Tables.{tab, tab-length, length-tab, get_or-tab, get_or-tab₀}
use Rattle.mask.specs.declared.Ones.{Ones}
use Rattle.scale.specs.Scale.{sentinel}
use Rattle.manifest.specs.declared.Waiters.{Waiters}
use Rattle.dispatch.specs.declared.Row.{Row}
use Rattle.ranking.specs.Ranking.{cell_by, held_by, HoldsHalts}
use Rattle.components.specs.declared.Strategy.{Strategy}
use Rattle.components.specs.declared.Strategy.TheVariants.{Etd, Rsr, Scan, Unknown}
use Rattle.assignment.specs.Cells.{by_strategy}
use Rattle.etd.specs.Pairs.{halts_at}
use Rattle.etd.specs.Halts.{stop_counts, HoldsCounts, counts_held}

-- the cell of column k, whose stop is listed
unfoldable pub row_cell : Row → List Float → List Float → (ℕ → Waiters) → List Float → ℕ → Ones → ℕ → ℕ
row_cell row dests sides waiters xs n stops k = cell_by row dests sides (waiters (get_or stops.at k 0)) xs n (get_or stops.at k 0)

-- whether it is held
unfoldable pub row_held : Row → List Float → List Float → (ℕ → Waiters) → List Float → ℕ → Ones → ℕ → Bool
row_held row dests sides waiters xs n stops k = held_by row dests sides (waiters (get_or stops.at k 0)) xs n (get_or stops.at k 0)

-- the stops of the columns are among n, and they have cells
abbrev pub ColumnsFit : Ones → ℕ → ℕ → Type 0
ColumnsFit columns n cells = (columns.count ≤ cells) × (columns.count ≤ 64) × ((k : ℕ) → k < columns.count → get_or columns.at k 0 < n)

-- ---- what ETD asks for, in buffers that no other strategy writes to

-- the counts of the stops
unfoldable pub table_for : Strategy → ℕ → List Float → ℕ → List ℕ → List ℕ
table_for strategy demand xs n entry = by_strategy strategy (tab (stop_counts demand xs n) n ++ drop n entry) entry entry entry

-- the demand stops between a car at x and each stop
unfoldable pub halts_for : Strategy → Float → ℕ → List Float → ℕ → List ℕ → List ℕ
halts_for strategy x demand xs n entry = by_strategy strategy (tab (halts_at x demand xs n) n ++ drop n entry) entry entry entry

pub table_held : (strategy : Strategy) (demand : ℕ) (xs : List Float) (n : ℕ) (entry : List ℕ) {exit : List ℕ} → n ≤ length entry
    → exit ≡ table_for strategy demand xs n entry → strategy ≡ Etd → HoldsCounts demand xs n exit
unfolding table_for
table_held strategy demand xs n entry {exit} room e is = counts_held demand xs n entry exit room (e ∙ rw is refl)

pub halts_size : (strategy : Strategy) (x : Float) (demand : ℕ) (xs : List Float) (n : ℕ) (entry : List ℕ) {exit : List ℕ} → n ≤ length entry
    → exit ≡ halts_for strategy x demand xs n entry → length exit ≡ length entry
unfolding halts_for
halts_size Etd x demand xs n entry {exit} room e = tab-length (halts_at x demand xs n) n entry exit room e
halts_size Rsr x demand xs n entry room e = ap length e
halts_size Scan x demand xs n entry room e = ap length e
halts_size Unknown x demand xs n entry room e = ap length e

pub halts_held : (row : Row) (x : Float) (demand : ℕ) (xs : List Float) (n : ℕ) (entry : List ℕ) {exit : List ℕ} → n ≤ length entry
    → row.car.position.along ≡ x → row.demand ≡ demand
    → exit ≡ halts_for row.policy.strategy x demand xs n entry → HoldsHalts row xs n exit
unfolding halts_for
halts_held row x demand xs n entry {exit} room ex ed e =
    record {
      size = omega (arith, halts_size row.policy.strategy x demand xs n entry room e);
      at = λ is j l.
          let filled : exit ≡ tab (halts_at x demand xs n) n ++ drop n entry = e ∙ rw is refl in
          ap (λ (t : List ℕ). get_or t j 0) filled
          ∙ get_or-tab (halts_at x demand xs n) n j (drop n entry) 0 l
          ∙ rw (ex, ed) refl;
    }

-- ---- spare cells

pub record Spared (m : ℕ) (entry exit : List ℕ) : Type 0 where
  pub size : length exit ≡ length entry
  pub before : (k : ℕ) → k < m → get_or exit k 0 ≡ get_or entry k 0
  pub spare : (k : ℕ) → m ≤ k → k < length entry → get_or exit k 0 ≡ sentinel

-- a filling that has come to column k
pub record Sparing (m : ℕ) (entry : List ℕ) (k : ℕ) (now : List ℕ) : Type 0 where
  pub from : m ≤ k
  pub below : k ≤ length entry
  pub size : length now ≡ length entry
  pub kept : (j : ℕ) → j < m → get_or now j 0 ≡ get_or entry j 0
  pub spare : (j : ℕ) → m ≤ j → j < k → get_or now j 0 ≡ sentinel

pub sparing_next : (m k : ℕ) (entry now : List ℕ) → Sparing m entry k now → k < length entry → Sparing m entry (k + 1) (set now k sentinel)
sparing_next m k entry now h l =
    let room : k < length now = omega (arith, h.size) in
    record {
      from = omega (arith, h.from);
      below = omega arith;
      size = simp length-set h.size;
      kept = λ j lj. get_or-set_other now k j sentinel 0 (λ e. absurd (omega (arith, h.from))) ∙ h.kept j lj;
      spare = λ j a b.
          ⊎_elim
          (λ (e : j ≡ k). rw e (get_or-set_same now k sentinel 0 room))
          (λ ne. get_or-set_other now k j sentinel 0 ne ∙ h.spare j a (omega arith))
          (same? j k);
    }

-- ---- a whole row

-- m cells, then spare ones
unfoldable pub padded : (ℕ → ℕ) → ℕ → ℕ → ℕ
padded f m k = cond (ltb k m) (f k) sentinel

pub whole_row : (f : ℕ → ℕ) (m : ℕ) (entry : List ℕ) {mid exit : List ℕ} → length mid ≡ length entry
    → mid ≡ tab f m ++ drop m entry → Spared m mid exit
    → exit ≡ tab (padded f m) (length entry)
unfolding padded
whole_row f m entry {mid} {exit} e d h =
    ext_get_or 0 exit (tab (padded f m) (length entry)) (h.size ∙ e ∙ sym (length-tab (padded f m) (length entry)))
    (λ k lk.
    let inside : k < length entry = omega (arith, h.size, e) in
    ⊎_elim
    (λ (l : k < m).
    h.before k l ∙ ap (λ (x : List ℕ). get_or x k 0) d ∙ get_or-tab f m k (drop m entry) 0 l
    ∙ sym (get_or-tab₀ (padded f m) (length entry) k 0 inside ∙ rw (lt-ltb k m l)))
    (λ (l : m ≤ k).
    h.spare k l (omega (arith, e)) ∙ sym (get_or-tab₀ (padded f m) (length entry) k 0 inside ∙ rw (le-ltb k m l)))
    (less? k m))
