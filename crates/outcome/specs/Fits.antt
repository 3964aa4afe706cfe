-- What a pass writes fits the least buffers, and what it is on the sheets for which the Rust builds no matrix. Assumes nothing.
use Rattle.std.specs.Prelude.{Ok}
use Rattle.std.specs.Prelude.{ℕ, zero, suc, ◌*◌, ◌≤◌, ◌<◌, ◌≡◌, refl, Bool, true, false, ◌&&◌, cond, List, length}
use Rattle.std.proofs.Common.{sym, ◌∙◌, ⊎_elim, arith, eq-eqb, le-ltb}
use Rattle.laws.specs.Bools.{less?}
use Rattle.laws.specs.Sums.{sum-le, sum_same}
use Rattle.laws.specs.Tables.{tabs-length, tab-length}
use Rattle.layout.specs.declared.Counts.{Counts}
use Rattle.layout.specs.Offsets.{record_length, end_of}
use Rattle.layout.specs.Records.{sheet_of}
use Rattle.layout.specs.Verdict.{verdict}
use Rattle.accepted.specs.Accepted.{accepted}
use Rattle.components.specs.Sheet.{Sheet}
use Rattle.components.specs.declared.Strategy.{Strategy}
use Rattle.components.specs.declared.Kind.TheVariants.{Stop, Car}
use Rattle.components.specs.declared.Strategy.TheVariants.{Etd, Rsr, Scan, Unknown}
use Rattle.scan.specs.Scan.{prepared_sweep}
use Rattle.sweep.specs.Sweeps.{sweep_code, sweep_of}
use Rattle.assignment_problem.specs.Choice.{IsChoice, total, sentinel, standing, Chosen}
use Rattle.assignment_problem.proofs.Chosen.{chosen_is, chosen_total}
use Rattle.assignment_problem.specs.Recursion.{column_of}
use Rattle.assignment.specs.Pending.{idle, idle_cars, pending_stops, columns}
use Rattle.assignment.specs.Cells.{by_strategy, sweep_after, matrix, column, goes, decision, answered_total}
use Rattle.assignment.proofs.CellLaws.{idle_le, cells_fit, rows_fit, matrix_le, no_stop}
use Rattle.outcome.specs.Outcome.{decisions_of, cells_of, sweeps_of}

-- ---- "decisions below 32 entries, matrix below 2,048, or sweep below 32" are refused, and more are never needed

pub record Fits (s : Sheet) : Type 0 where
  pub decisions : idle_cars s ≤ 32
  pub cells : idle_cars s * columns s ≤ 2048
  pub sweeps : s.cars ≤ 32

pub fits : (bytes : List ℕ) (c : Counts) → verdict bytes ≡ Ok c → Fits (sheet_of bytes c)
fits bytes c e =
    let s = (accepted bytes c e).sheet in
    record {
      decisions = omega (arith, idle_le (sheet_of bytes c), s.most_cars);
      cells = cells_fit (sheet_of bytes c) (record { cars = s.most_cars; stops = s.most_stops });
      sweeps = s.most_cars;
    }

-- and an accepted sheet has at most 27,283 bytes: every table full, one demand and one closure a stop; of edition 1 at most 26,515
pub most_bytes : (bytes : List ℕ) (c : Counts) → verdict bytes ≡ Ok c → (length bytes ≤ 27283) × (c.across ≡ 0 → length bytes ≤ 26515)
unfolding sheet_of
most_bytes bytes c e =
    let a = accepted bytes c e in
    let d : c.demands ≤ c.stops = a.sheet.most_demands in
    let x : c.closures ≤ c.stops = a.sheet.most_closures in
    let last : end_of c ≤ 218258 =
    omega (arith, a.one_policy, a.small.stops, a.small.stop_bits, a.small.lines, a.small.car_bits, a.small.aboards, a.small.waits) in
    let first : c.across ≡ 0 → end_of c ≤ 212114 = λ z.
    let p : record_length c.across Stop * c.stops ≤ 118 * 64 = ap_le (λ (w : ℕ). record_length w Stop * c.stops) z (omega (arith, a.small.stops)) in
    let q : record_length c.across Car * c.cars ≤ 737 * 32 = ap_le (λ (w : ℕ). record_length w Car * c.cars) z (omega (arith, a.small.cars)) in
    omega (arith, a.one_policy, a.small.stops, a.small.lines, a.small.aboards, a.small.waits) in
    (omega (arith, a.whole), λ z. omega (arith, a.whole, first z))
  where
    ap_le : (f : ℕ → ℕ) {w n : ℕ} → w ≡ 0 → f 0 ≤ n → f w ≤ n
    ap_le f e l = rw e l

-- the answered total is at most n sentinels, so at most 2^53
pub total_most : (bytes : List ℕ) (c : Counts) (limit : ℕ) → verdict bytes ≡ Ok c
    → answered_total (sheet_of bytes c) limit ≤ 9007199254740992
unfolding answered_total total
total_most bytes c limit e =
    let s = sheet_of bytes c in
    let n : idle_cars s ≤ 32 = omega (arith, idle_le s, (accepted bytes c e).sheet.most_cars) in
    let is = chosen_total (matrix s limit) (idle_cars s) (columns s) (rows_fit s) in
    let most = sum-le (idle_cars s) 281474976710656 {f = λ r. matrix s limit r (column_of (matrix s limit) (idle_cars s) (columns s) r)}
    (λ r l. matrix_le s limit r _) in
    omega arith

-- a buffer that is long enough keeps its length
pub decisions_length : (s : Sheet) (limit : ℕ) (entry : List ℕ) → Fits s → 32 ≤ length entry
    → length (decisions_of s limit entry) ≡ length entry
unfolding decisions_of
decisions_length s limit entry h l = tab-length (decision s limit) (idle_cars s) entry _ (omega (arith, h.decisions)) refl

pub cells_length : (s : Sheet) (limit : ℕ) (entry : List ℕ) → Fits s → 2048 ≤ length entry
    → length (cells_of s limit entry) ≡ length entry
unfolding cells_of
cells_length s limit entry h l = tabs-length (matrix s limit) (columns s) (idle_cars s) (idle_cars s * columns s) entry _ refl
    (omega (arith, h.cells)) refl

pub sweeps_length : (s : Sheet) (entry : List ℕ) → Fits s → 32 ≤ length entry → length (sweeps_of s entry) ≡ length entry
unfolding sweeps_of
sweeps_length s entry h l = tab-length (λ i. sweep_code (sweep_after s i)) s.cars entry _ (omega (arith, h.sweeps)) refl

-- ---- no pending stop: "spare cells sentinel (also when m = 0)". With no idle car see no-car of assignment: CellLaws

module _ (s : Sheet) (limit : ℕ) (none : pending_stops s ≡ 0) where
  -- every choice has one total
  every_total : (q : ℕ → ℕ) → total (idle_cars s) (matrix s limit) q ≡ idle_cars s * 281474976710656
  unfolding total
  every_total q = sum_same (idle_cars s) 281474976710656 {f = λ i. matrix s limit i (q i)} (λ i l. no_stop s limit i (q i) none)

  -- and leaves every car standing
  every_standing : (q : ℕ → ℕ) → total (idle_cars s) (standing (matrix s limit)) q ≡ idle_cars s * 1
  unfolding total
  every_standing q =
      sum_same (idle_cars s) 1 {f = λ i. standing (matrix s limit) i (q i)}
      (λ i l. rw (eq-eqb (matrix s limit i (q i)) sentinel (no_stop s limit i (q i) none)))

  pub no_stop_total : answered_total s limit ≡ idle_cars s * 281474976710656
  unfolding answered_total
  no_stop_total = chosen_total (matrix s limit) (idle_cars s) (columns s) (rows_fit s) ∙ every_total _

  picked : Chosen (idle_cars s) (columns s) (matrix s limit) (column s limit)
  unfolding column
  picked = chosen_is (matrix s limit) (idle_cars s) (columns s) (rows_fit s)

  -- column i for car i
  straight : IsChoice (idle_cars s) (columns s) (λ i. i)
  straight = record { within = λ i l. omega (arith, rows_fit s); distinct = λ a b la lb e. e }

  up_to : (k r : ℕ) → r < k → r < idle_cars s → column s limit r ≡ r
  up_to zero r l ln = absurd (omega arith)
  up_to (suc k) r l ln =
      let before : (t : ℕ) → t < r → column s limit t ≡ t = λ t lt. up_to k t (omega arith) (omega arith) in
      let most : column s limit r ≤ r =
      picked.lowest (λ i. i) straight (every_total (λ i. i) ∙ sym (every_total (column s limit)))
      (every_standing (λ i. i) ∙ sym (every_standing (column s limit))) r ln (λ t lt. sym (before t lt)) in
      ⊎_elim
      (λ (x : column s limit r < r).
      absurd (let d = picked.choice.distinct (column s limit r) r (omega arith) ln (before (column s limit r) x) in omega arith))
      (λ (x : r ≤ column s limit r). omega arith)
      (less? (column s limit r) r)

  -- the lowest columns in car order
  pub no_stop_column : (r : ℕ) → r < idle_cars s → column s limit r ≡ r
  no_stop_column r l = up_to (suc r) r (omega arith) l

  -- and no car is sent
  pub no_stop_decision : (r : ℕ) → decision s limit r ≡ 0
  unfolding decision goes
  no_stop_decision r = rw (le-ltb (column s limit r) (pending_stops s) (omega arith))

-- "SCAN's prepare_car runs .. not with no pending stop": the sheet's sweeps stay
pub no_stop_sweep : (s : Sheet) → pending_stops s ≡ 0 → (i : ℕ) → sweep_after s i ≡ sweep_of (s.car i)
unfolding sweep_after
no_stop_sweep s none i = rw (le-ltb 0 (pending_stops s) (omega arith)) (stays s.policy.strategy (idle s i))
  where
    stays : (t : Strategy) (b : Bool) → by_strategy t (sweep_of (s.car i)) (sweep_of (s.car i))
        (cond (b && false) (prepared_sweep s i) (sweep_of (s.car i))) (sweep_of (s.car i)) ≡ sweep_of (s.car i)
    stays Etd b = refl
    stays Rsr b = refl
    stays Scan true = refl
    stays Scan false = refl
    stays Unknown b = refl
