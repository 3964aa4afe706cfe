-- "What it calls least must be least, whoever supplied the prices, and for each least choice some whole prices within the range pass." Assumes nothing.
use Rattle.std.specs.Prelude.{Err, Ok, Result}
use Rattle.layout.specs.declared.Refusal.{Refusal}
use Rattle.layout.specs.Refused.{refused}
use Rattle.grade.specs.declared.Graded.TheVariants.{Least, NotShown}
use Rattle.std.specs.Prelude.{ℕ, ◌≤◌, ◌<◌, ◌≡◌, refl, true, false, List, length, ℤ, pos}
use Rattle.std.proofs.Common.{sym, ◌∙◌, ⊎_elim, le-ltb}
use Rattle.std.proofs.Math.Path.{ap}
use Rattle.laws.specs.Bools.{never, which}
use Rattle.laws.specs.Tables.{tab, length-tab, get_or-tab₀}
use Rattle.components.specs.Sheet.{Sheet}
use Rattle.layout.specs.declared.Counts.{Counts}
use Rattle.layout.specs.Records.{sheet_of, limit_of}
use Rattle.layout.specs.Verdict.{verdict}
use Rattle.prices.specs.Price.{in_range}
use Rattle.assignment_problem.specs.Choice.{IsChoice, total}
use Rattle.assignment.specs.Pending.{idle_cars, columns}
use Rattle.assignment.specs.Cells.{matrix}
use Rattle.assignment.proofs.CellLaws.{matrix_le, rows_fit}
use Rattle.bench.specs.Done.{past_one}
use Rattle.shown.specs.Shown.{shown, shown_same}
use Rattle.shown.specs.Fits.{price_at, column_of}
use Rattle.shown.specs.Refusals.{refusal19, mispriced, refusal20, as_many, choice_of, choice_taken, priced_well}
use Rattle.shown.specs.Sound.{shown_least_lem}
use Rattle.shown.specs.Complete.{Passing, least_passes}
use Rattle.grade.specs.Graded.{Sent, sent, short_matrix, outcome_of, shown_least, graded, judged, done_of, grade_of}
use Rattle.grade.specs.Grading.{long}

-- columns that are least for a sheet under a limit: one an idle car, none twice, and "no choice of distinct columns has a smaller total"
pub record IsLeast (s : Sheet) (limit : ℕ) (chosen : List ℕ) : Type 0 where
  pub one_each : length chosen ≡ idle_cars s
  pub choice : IsChoice (idle_cars s) (columns s) (column_of chosen)
  pub least : (q : ℕ → ℕ) → IsChoice (idle_cars s) (columns s) q
      → total (idle_cars s) (matrix s limit) (column_of chosen) ≤ total (idle_cars s) (matrix s limit) q

-- ---- sound

-- of a byte string that is called least: it is an accepted sheet, and the columns are least for it
pub record Sound (bytes : List ℕ) (chosen : List ℕ) : Type 0 where
  pub counts : Counts
  pub is_accepted : verdict bytes ≡ Ok counts
  pub is_least : IsLeast (sheet_of bytes counts) (limit_of bytes) chosen

pub sound : (bytes : List ℕ) (x : Sent) (entry : List ℕ) → (grade_of bytes x entry).answer ≡ (Ok Least) → Sound bytes x.columns
unfolding outcome_of judged graded shown_least
sound bytes x entry h = by (outcome_of bytes (length entry)) refl h
  where
    least_of : (s : Sheet) (limit : ℕ) (x : Sent) (entry : List ℕ) → (judged s limit x entry).answer ≡ (Ok Least) → IsLeast s limit x.columns
    least_of s limit x entry h =
        let n = idle_cars s in
        let w = columns s in
        let shows = shown n w (matrix s limit) (column_of x.columns) (price_at x.car_prices) (price_at x.column_prices) in
        ⊎_elim
        (λ (a : refusal19 n w x.columns ≡ true). let g : refused 19 0 ≡ (Ok Least) = rw a at h in never cc)
        (λ (a : refusal19 n w x.columns ≡ false).
        ⊎_elim
        (λ (b : refusal20 n w x.car_prices x.column_prices ≡ true). let g : refused 20 0 ≡ (Ok Least) = rw (a, b) at h in never cc)
        (λ (b : refusal20 n w x.car_prices x.column_prices ≡ false).
        ⊎_elim
        (λ (t : shows ≡ true).
        let choice = choice_of n w x.columns a in
        record {
          one_each = as_many n w x.columns a;
          choice = choice;
          least = shown_least_lem n w (matrix s limit) (column_of x.columns) (price_at x.car_prices) (price_at x.column_prices) choice t;
        })
        (λ (t : shows ≡ false). let g : (Ok NotShown) ≡ (Ok Least) = rw (a, b, t) at h in never cc)
        (which shows))
        (which (refusal20 n w x.car_prices x.column_prices)))
        (which (refusal19 n w x.columns))

    by : (v : Result Counts Refusal) → outcome_of bytes (length entry) ≡ v → (done_of v bytes x entry).answer ≡ (Ok Least) → Sound bytes x.columns
    by (Err r) e g = never cc
    by (Ok c) e g =
        record {
          counts = c;
          is_accepted = past_one (short_matrix (length entry)) e;
          is_least = least_of (sheet_of bytes c) (limit_of bytes) x entry g;
        }

-- ---- complete

-- columns that can be shown to be least: "some whole prices within the range pass"
pub record Showable (bytes : List ℕ) (n w : ℕ) (chosen : List ℕ) (entry : List ℕ) : Type 0 where
  pub car_prices : List ℤ
  pub column_prices : List ℤ
  pub within_range : refusal20 n w car_prices column_prices ≡ false
  pub graded_least : (grade_of bytes (sent chosen car_prices column_prices) entry).answer ≡ (Ok Least)

module _ (bytes : List ℕ) (c : Counts) (accepted : verdict bytes ≡ Ok c) (chosen : List ℕ)
    (h : IsLeast (sheet_of bytes c) (limit_of bytes) chosen) where
  n : ℕ
  n = idle_cars (sheet_of bytes c)

  w : ℕ
  w = columns (sheet_of bytes c)

  cell : ℕ → ℕ → ℕ
  cell = matrix (sheet_of bytes c) (limit_of bytes)

  passing : Passing n w cell (column_of chosen)
  unfolding n w cell
  passing =
      least_passes n w cell (column_of chosen) (rows_fit (sheet_of bytes c)) (λ i j li lj. matrix_le (sheet_of bytes c) (limit_of bytes) i j)
      h.choice h.least

  u : List ℤ
  u = tab passing.car_price n

  v : List ℤ
  v = tab passing.column_price w

  u_at : (i : ℕ) → i < n → price_at u i ≡ passing.car_price i
  unfolding u
  u_at i l = get_or-tab₀ passing.car_price n i (pos 0) l

  v_at : (j : ℕ) → j < w → price_at v j ≡ passing.column_price j
  unfolding v
  v_at j l = get_or-tab₀ passing.column_price w j (pos 0) l

  u_well : mispriced n u ≡ false
  unfolding u
  u_well = priced_well n u (length-tab passing.car_price n) (λ i l. ap in_range (u_at i l) ∙ passing.cars_in_range i l)

  v_well : mispriced w v ≡ false
  unfolding v
  v_well = priced_well w v (length-tab passing.column_price w) (λ j l. ap in_range (v_at j l) ∙ passing.columns_in_range j l)

  in_range_lem : refusal20 n w u v ≡ false
  unfolding refusal20
  in_range_lem = rw (u_well, v_well)

  shows : shown n w cell (column_of chosen) (price_at u) (price_at v) ≡ true
  unfolding n w
  shows =
      shown_same n w cell cell (column_of chosen) (price_at u) passing.car_price (price_at v) passing.column_price (λ i j li lj. refl)
      h.choice.within u_at v_at
      ∙ passing.shows

  least_answer : (entry : List ℕ) → (judged (sheet_of bytes c) (limit_of bytes) (sent chosen u v) entry).answer ≡ (Ok Least)
  unfolding judged graded shown_least n w cell
  least_answer entry = rw (choice_taken (idle_cars (sheet_of bytes c)) (columns (sheet_of bytes c)) chosen h.one_each h.choice, in_range_lem, shows)

  -- for each least choice some prices pass
  pub complete : (entry : List ℕ) → 2048 ≤ length entry → Showable bytes (idle_cars (sheet_of bytes c)) (columns (sheet_of bytes c)) chosen entry
  unfolding short_matrix n w
  complete entry l =
      let o : outcome_of bytes (length entry) ≡ Ok c = long bytes (length entry) (le-ltb (length entry) 2048 l) (sym accepted) in
      record {
        car_prices = u;
        column_prices = v;
        within_range = in_range_lem;
        graded_least = ap (λ (r : Result Counts Refusal). (done_of r bytes (sent chosen u v) entry).answer) o ∙ least_answer entry;
      }
