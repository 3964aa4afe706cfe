-- Why a pair of a car and a stop costs what it does, or has no rank. Assumes nothing.
use Rattle.std.specs.Prelude.{Err, Ok, Result}
use Rattle.layout.specs.declared.Refusal.{Refusal}
use Rattle.std.specs.Prelude.{None, Option, Some}
use Rattle.std.specs.Prelude.{ℕ, ◌+◌, ◌≤◌, ◌<◌, ◌≡◌, Bool, true, false, cond, ◌≢◌, List, eqb, ltb, Float}
use Rattle.std.proofs.Common.{sym, ◌∙◌}
use Rattle.std.proofs.Math.Path.{ap}
use borrow.Author.Tests.{eq-eqb, ne_eqb, lt-ltb, le-ltb}
use Rattle.laws.specs.Folds.{lookup}
use Rattle.fp.specs.Num.{zero}
use Rattle.components.specs.declared.Strategy.{Strategy}
use Rattle.components.specs.Points.{distance}
use Rattle.components.specs.Sheet.{Sheet}
use Rattle.layout.specs.declared.Counts.{Counts}
use Rattle.layout.specs.Records.{sheet_of, limit_of}
use Rattle.layout.specs.Verdict.{verdict}
use Rattle.manifest.specs.World.{stop_id, stop_at}
use Rattle.dispatch.specs.Useful.{obstacle}
use Rattle.etd.specs.declared.Terms as etd
use Rattle.etd.specs.Etd.{etd_terms}
use Rattle.rsr.specs.declared.Terms as rsr
use Rattle.rsr.specs.Rsr.{rsr_terms}
use Rattle.assignment.specs.Pending.{idle, pending}
use Rattle.assignment.specs.Candidates.{line_serves, barred, kept}
use Rattle.assignment.specs.Cells.{by_strategy, rank}
use Rattle.why.specs.declared.Terms.{Terms}
use Rattle.why.specs.declared.Why.{Why}
use Rattle.why.specs.declared.Why.TheVariants.{Ranked, Unranked}

-- ---- the reasons, by number, in the order in which a pass asks

-- 3 "idle-listed" it is not, 4 the stop is not pending, 5 the car's line does not serve it, 6 it is barred to the car, 7 the limit does not keep it;
-- else what stands against the rank
abbrev pub first_reason : Bool → Bool → Bool → Bool → Bool → ℕ → ℕ
first_reason listed waits served shut near rest = cond listed (cond waits (cond served (cond shut 6 (cond near rest 7)) 5) 4) 3

-- 8 to 11 by the first test of use that fails: the car passes the stop by, it is full, nobody boards, it is off the path of those aboard; 12 no rank all
-- the same, since under ETD and RSR the car's speed is 0, under SCAN the stop is behind the sweep; 0 a rank
abbrev pub rank_reason : ℕ → Option Float → ℕ
rank_reason o None = cond (eqb o 0) 12 (7 + o)
rank_reason o (Some x) = cond (eqb o 0) 0 (7 + o)

-- "the aboard-path test for RSR only"
abbrev pub asks_path : Strategy → Bool
asks_path t = by_strategy t false true false false

-- ---- the terms, by slots

abbrev pub terms : Float → Float → Float → Float → Float → Float → Float → Float → Terms
terms a b c d e f g h = record { t0 = a; t1 = b; t2 = c; t3 = d; t4 = e; t5 = f; t6 = g; t7 = h }

-- the last is the cost
abbrev pub etd_slots : etd.Terms → Terms
etd_slots t = terms t.travel t.delay t.doors t.bonus t.sum t.squares t.waitsum t.cost

abbrev pub rsr_slots : rsr.Terms → Terms
rsr_slots t = terms t.travel t.eta t.reversed t.called t.loaded t.waitsum t.aged t.cost

abbrev pub scan_slots : Float → Terms
scan_slots d = terms d zero zero zero zero zero zero d

-- a reason of 0 is a rank
abbrev pub why_by : ℕ → Terms → Why
why_by reason t = cond (eqb reason 0) (Ranked t) (Unranked reason)

-- ---- over a sheet

module _ (s : Sheet) where
  unfoldable pub terms_of : ℕ → ℕ → Terms
  terms_of i j =
      by_strategy s.policy.strategy (etd_slots (etd_terms s i j)) (rsr_slots (rsr_terms s i j))
      (scan_slots (distance (s.car i).position (stop_at s j))) (scan_slots zero)

  -- the record with an id, past the last where there is none
  unfoldable pub car_record : ℕ → ℕ
  car_record id = lookup (λ i. eqb (s.car i).id id) (λ i. i) s.cars s.cars

  unfoldable pub stop_record : ℕ → ℕ
  stop_record id = lookup (λ j. eqb (stop_id s j) id) (λ j. j) s.stops s.stops

module _ (s : Sheet) (limit : ℕ) where
  unfoldable pub reason_of : ℕ → ℕ → ℕ
  reason_of i j =
      first_reason (idle s i) (pending s j) (line_serves s i j) (barred s i j) (kept s i limit j)
      (rank_reason (obstacle s i j (asks_path s.policy.strategy)) (rank s i j))

  -- of two records
  unfoldable pub why_at : ℕ → ℕ → Why
  why_at i j = why_by (reason_of i j) (terms_of s i j)

  -- of two ids: 1 no car has this one, 2 no stop
  unfoldable pub why_in : ℕ → ℕ → Why
  why_in car stop =
      cond (ltb (car_record s car) s.cars)
      (cond (ltb (stop_record s stop) s.stops) (why_at (car_record s car) (stop_record s stop)) (Unranked 2))
      (Unranked 1)

-- ---- over bytes

unfoldable pub why_read : Result Counts Refusal → List ℕ → ℕ → ℕ → Result Why Refusal
why_read (Err r) s car stop = Err r
why_read (Ok c) s car stop = Ok (why_in (sheet_of s c) (limit_of s) car stop)

unfoldable pub why_of : List ℕ → ℕ → ℕ → Result Why Refusal
why_of s car stop = why_read (verdict s) s car stop

-- ---- laws

pub why_ranked : (reason : ℕ) (t : Terms) → reason ≡ 0 → Ranked t ≡ why_by reason t
why_ranked reason t e = rw (eq-eqb reason 0 e)

pub why_unranked : (reason : ℕ) (t : Terms) → reason ≢ 0 → Unranked reason ≡ why_by reason t
why_unranked reason t e = rw (ne_eqb reason 0 e)

module _ (s : Sheet) (limit car stop : ℕ) {i : ℕ} (ei : i ≡ car_record s car) where
  pub no_car : s.cars ≤ i → Unranked 1 ≡ why_in s limit car stop
  unfolding why_in
  no_car l = rw (← ei, le-ltb i s.cars l)

  module _ {j : ℕ} (li : i < s.cars) (ej : j ≡ stop_record s stop) where
    pub no_stop : s.stops ≤ j → Unranked 2 ≡ why_in s limit car stop
    unfolding why_in
    no_stop l = rw (← ei, lt-ltb i s.cars li, ← ej, le-ltb j s.stops l)

    pub both_found : {r : Why} → j < s.stops → r ≡ why_at s limit i j → r ≡ why_in s limit car stop
    unfolding why_in
    both_found l e = rw (← ei, lt-ltb i s.cars li, ← ej, lt-ltb j s.stops l) e

module _ (s : List ℕ) (car stop : ℕ) {v : Result Counts Refusal} (ev : v ≡ verdict s) where
  pub read_refused : {r : Refusal} → v ≡ Err r → Err r ≡ why_of s car stop
  unfolding why_of why_read
  read_refused e = ap (λ (r : Result Counts Refusal). why_read r s car stop) (sym e ∙ ev)

  pub read_accepted : {c : Counts} {r : Why} → v ≡ Ok c → r ≡ why_in (sheet_of s c) (limit_of s) car stop → Ok r ≡ why_of s car stop
  unfolding why_of why_read
  read_accepted e q = ap Ok q ∙ ap (λ (r : Result Counts Refusal). why_read r s car stop) (sym e ∙ ev)
