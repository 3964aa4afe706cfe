-- The plain matcher "chooses as the fast one does": the same total, and the same columns in the same places. Assumes nothing.
use Rattle.std.specs.Prelude.{◌≡◌, refl, Bool, true, false, not, cond, ℕ, zero, suc, ◌*◌, ◌≤◌, ◌<◌, eqb, ltb, length, get_or, Some, Err}
use Rattle.std.proofs.Common.{sym, ap, ◌∙◌, arith, ext_get_or, le-ltb, ltb-false, eqb-true}
use mathlib.Core.List.{List, ◌++◌}
use Rattle.std.proofs.Math.ListN.{drop}
use Rattle.laws.specs.Bools.{neither_left, neither_right}
use Rattle.laws.specs.Folds.{any}
use Rattle.laws.specs.Tables.{tab, length-tab, get_or-tab₀}
use Rattle.assignment_problem.specs.Choice.{cell_at}
use Rattle.assignment_problem.specs.Recursion.{chosen}
use Rattle.assignment_problem.proofs.Chosen.{chosen_length}
use Rattle.matcher.specs.Promise.{too_large, refused, matching, written, all_fit}
use Rattle.plain_matcher.specs.declared.Refusal.TheVariants.{FewPlaces, NotSmall}
use Rattle.plain_matcher.specs.Promise.{refused22, four_of, chosen_of, plain_of, lent_plain, plain_number, plain_total, column_at, places_left}
use Rattle.plain_matcher.specs.Held.{not-false}

-- four columns hold a choice of up to four cars
four_at : (l : List ℕ) (k : ℕ) → k < 4 → column_at (four_of l) k ≡ get_or l k 0
four_at l zero h = refl
four_at l (suc zero) h = refl
four_at l (suc (suc zero)) h = refl
four_at l (suc (suc (suc zero))) h = refl
four_at l (suc (suc (suc (suc k)))) h = absurd (omega arith)

four_whole : (l : List ℕ) (n : ℕ) → length l ≡ n → n ≤ 4 → tab (column_at (four_of l)) n ≡ l
four_whole l n e h = ext_get_or 0 (tab (column_at (four_of l)) n) l (length-tab (column_at (four_of l)) n ∙ sym e)
    (λ k lk. let b : k < n = omega (arith, length-tab (column_at (four_of l)) n) in get_or-tab₀ (column_at (four_of l)) n k 0 b ∙ four_at l k (omega arith))

-- a matrix that is not refused
not_refused : (cars columns : ℕ) (cells : List ℕ) → refused22 cars columns cells ≡ false
    → (cars ≤ 4) × (columns ≤ 5) × (cars ≤ columns) × (length cells ≡ cars * columns) × (any (too_large cells) (length cells) ≡ false)
unfolding refused22
not_refused cars columns cells h =
    let a = neither_right (ltb 4 cars) _ h in
    let b = neither_right (ltb 5 columns) _ a in
    let c = neither_right (ltb columns cars) _ b in (
      ltb-false 4 cars (neither_left (ltb 4 cars) _ h),
      ltb-false 5 columns (neither_left (ltb 5 columns) _ a),
      ltb-false columns cars (neither_left (ltb columns cars) _ b),
      eqb-true (length cells) (cars * columns) (not-false _ (neither_left (not (eqb (length cells) (cars * columns))) _ c)),
      neither_right (not (eqb (length cells) (cars * columns))) _ c,
    )

-- where the plain matcher answers 0, places are enough and nothing is refused
chooses : (cars columns : ℕ) (cells : List ℕ) (places : ℕ) → plain_number (lent_plain cars columns cells places) ≡ 0
    → (4 ≤ places) × (refused22 cars columns cells ≡ false)
unfolding lent_plain plain_of chosen_of
chooses cars columns cells places = go (ltb places 4) refl (refused22 cars columns cells) refl
  where
    go : (a : Bool) → ltb places 4 ≡ a → (b : Bool) → refused22 cars columns cells ≡ b
        → plain_number (cond a (Err FewPlaces) (cond b (Err NotSmall) (chosen_of cars columns cells))) ≡ 0
        → (4 ≤ places) × (refused22 cars columns cells ≡ false)
    go true e b f h = absurd (omega arith)
    go false e true f h = absurd (omega arith)
    go false e false f h = (ltb-false places 4 e, f)

-- and the fast one chooses in the same places: the same total, and the same columns there
module _ (cars columns : ℕ) (cells places : List ℕ) (h : plain_number (lent_plain cars columns cells (length places)) ≡ 0) where
  fast : (refused cars columns cells (length places) ≡ false) × (cars ≤ 4) × (cars ≤ columns)
  fast =
      let g = chooses cars columns cells (length places) h in
      let f = not_refused cars columns cells g.1 in
      let a : cars ≤ length places = omega (arith, g.0, f.0) in
      (all_fit cars columns cells (length places) (omega (arith, f.0)) (omega (arith, f.1)) f.2 f.3 a f.4, f.0, f.2)

  pub same_total : Some (plain_total (lent_plain cars columns cells (length places)) 0) ≡ matching cars columns cells (length places)
  unfolding lent_plain plain_of chosen_of matching
  same_total = let g = chooses cars columns cells (length places) h in rw (le-ltb (length places) 4 g.0, g.1, fast.0)

  pub same_columns : places_left cars (lent_plain cars columns cells (length places)) places ≡ written cars columns cells places
  unfolding lent_plain plain_of chosen_of written
  same_columns =
      let g = chooses cars columns cells (length places) h in
      rw (le-ltb (length places) 4 g.0, g.1, fast.0)
      (ap (λ (l : List ℕ). l ++ drop cars places)
      (four_whole (chosen (cell_at cells columns) cars columns) cars (chosen_length (cell_at cells columns) cars columns fast.2) fast.1))
