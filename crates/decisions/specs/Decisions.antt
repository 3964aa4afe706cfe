-- Decisions from a filled matrix. Assumes nothing.
use Rattle.std.specs.Prelude.{ℕ, ◌*◌, ◌≤◌, ◌<◌, ◌≡◌, false, ◌&&◌, cond, ltb, length, Option}
use Rattle.std.proofs.Math.Path.{ap}
use Rattle.std.proofs.Common.{◌∙◌, arith, le-ltb}
use mathlib.Core.List.{List, ◌++◌}
use Rattle.std.proofs.Math.ListN.{get_or, drop, get_or-append}
use Rattle.laws.specs.Folds.{none_any}
use Rattle.laws.specs.Tables.{tab, tab_cong}
use Rattle.scale.specs.Scale.{sentinel}
use Rattle.mask.specs.declared.Ones.{Ones}
use Rattle.assignment_problem.specs.Choice.{cell_at}
use Rattle.assignment_problem.specs.Recursion.{chosen, least_total, column_of}
use Rattle.assignment_problem.proofs.Chosen.{chosen_length, chosen_choice}
use Rattle.matcher.specs.Promise.{too_large, refused, matching, written, least_or, all_fit}

-- n rows of cells, none above the sentinel; columns with a listed stop; and room for the decisions
pub record Filled (cells : List ℕ) (n columns : ℕ) (stops : Ones) (ids : List ℕ) (places : ℕ) : Type 0 where
  pub few : n ≤ 32
  pub narrow : columns ≤ 64
  pub wide : n ≤ columns
  pub whole : length cells ≡ n * columns
  pub small : (k : ℕ) → k < length cells → get_or cells k 0 ≤ sentinel
  pub named : length ids ≡ 64
  pub most : stops.count ≤ 64
  pub below : (k : ℕ) → k < stops.count → get_or stops.at k 0 < 64
  pub room : 32 ≤ places

-- "Column below m and cell below the sentinel: go to that stop", by its id; 0 for idle
unfoldable pub told : Ones → List ℕ → ℕ → ℕ → ℕ
told stops ids place cell = cond (ltb place stops.count && ltb cell sentinel) (get_or ids (get_or stops.at place 0) 0) 0

-- of row r, whose column is placed
unfoldable pub told_at : List ℕ → ℕ → List ℕ → Ones → List ℕ → ℕ → ℕ
told_at cells columns places stops ids r = told stops ids (get_or places r 0) (cell_at cells columns r (get_or places r 0))

pub told_next : (cells : List ℕ) (columns : ℕ) (places : List ℕ) (stops : Ones) (ids : List ℕ) (r : ℕ) {cell d : ℕ}
    → cell ≡ cell_at cells columns r (get_or places r 0) → d ≡ told stops ids (get_or places r 0) cell → d ≡ told_at cells columns places stops ids r
unfolding told_at
told_next cells columns places stops ids r e d = d ∙ ap (told stops ids (get_or places r 0)) e

-- of row r, whose column is the choice's
unfoldable pub decision_by : List ℕ → ℕ → ℕ → Ones → List ℕ → ℕ → ℕ
decision_by cells n columns stops ids r =
    let k = column_of (cell_at cells columns) n columns r in
    told stops ids k (cell_at cells columns r k)

-- ---- the matcher takes the matrix

module _ (cells : List ℕ) (n columns : ℕ) (stops : Ones) (ids : List ℕ) (room : ℕ) (h : Filled cells n columns stops ids room) where
  taken : (places : ℕ) → n ≤ places → refused n columns cells places ≡ false
  taken places l =
      all_fit n columns cells places h.few h.narrow h.wide h.whole l
      (none_any (too_large cells) (length cells) (λ k lk. le-ltb sentinel (get_or cells k 0) (h.small k lk)))

  pub least_told : (places : ℕ) {answer : Option ℕ} {t : ℕ} → n ≤ places → answer ≡ matching n columns cells places
      → t ≡ least_or answer 0
      → t ≡ least_total (cell_at cells columns) n columns
  unfolding matching
  least_told places {answer} {t} l e d = d ∙ ap (λ (a : Option ℕ). least_or a 0) e ∙ rw (taken places l)

  module _ (entry : List ℕ) (places : List ℕ) (l : n ≤ length entry) (e : places ≡ written n columns cells entry) where
    placed : (r : ℕ) → r < n → get_or places r 0 ≡ column_of (cell_at cells columns) n columns r
    unfolding written
    placed r lr =
        let size = chosen_length (cell_at cells columns) n columns h.wide in
        let is : written n columns cells entry ≡ chosen (cell_at cells columns) n columns ++ drop n entry = rw (taken (length entry) l) in
        ap (λ (x : List ℕ). get_or x r 0) (e ∙ is)
        ∙ get_or-append (chosen (cell_at cells columns) n columns) (drop n entry) 0 r (omega arith)

    pub placed_below : (r : ℕ) → r < n → get_or places r 0 < columns
    placed_below r lr = omega (arith, placed r lr, (chosen_choice (cell_at cells columns) n columns h.wide).within r lr)

    pub all_told : (rest : List ℕ) {exit : List ℕ} → exit ≡ tab (told_at cells columns places stops ids) n ++ rest
        → exit ≡ tab (decision_by cells n columns stops ids) n ++ rest
    unfolding told_at decision_by
    all_told rest d =
        d
        ∙ ap (λ (x : List ℕ). x ++ rest)
        (tab_cong (told_at cells columns places stops ids) (decision_by cells n columns stops ids) n (λ r lr. rw (placed r lr)))
