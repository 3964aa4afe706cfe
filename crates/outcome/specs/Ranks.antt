-- Every rank of an accepted sheet is finite and nonnegative, under ETD, RSR and SCAN, and whatever the limit: a rank does not depend on it. Assumes
-- nothing.
use Rattle.std.specs.Prelude.{Ok}
use Rattle.std.specs.Prelude.{None, Option, Some}
use Rattle.std.specs.Prelude.{ℕ, ◌<◌, Bool, List, Float}
use Rattle.std.proofs.Common.{arith, ◌∙◌}
use Rattle.std.proofs.Math.Path.{◌≡◌, ap}
use Rattle.std.proofs.Math.Bool.{true, false, cond}
use Rattle.std.specs.Float.Ieee.{lt, le}
use Rattle.fp.specs.Num as Num
use Rattle.fp.specs.Num.{finite}
use Rattle.components.specs.declared.Strategy.{Strategy}
use Rattle.components.specs.declared.Strategy.TheVariants.{Etd, Rsr, Scan, Unknown}
use Rattle.components.specs.Sheet.{Sheet}
use Rattle.layout.specs.declared.Counts.{Counts}
use Rattle.layout.specs.Records.{sheet_of}
use Rattle.layout.specs.Verdict.{verdict}
use Rattle.accepted.specs.Accepted.{accepted}
use Rattle.manifest.specs.World.{stop_at}
use Rattle.sweep.specs.Sweeps.{sweep_rank}
use Rattle.sweep.specs.SweepRange.{sweep_nonneg}
use Rattle.dispatch.specs.Useful.{pair_is_useful}
use Rattle.dispatch.specs.Admitted.{Admitted}
use Rattle.etd.specs.Etd.{etd_rank, fair_cost}
use Rattle.etd.specs.EtdRange.{etd_nonneg, etd_ranked}
use Rattle.rsr.specs.Rsr.{rsr_cost, rsr_rank}
use Rattle.rsr.specs.RsrRange.{rsr_nonneg, rsr_ranked}
use Rattle.assignment.specs.Cells.{by_strategy, sweep_after, rank}
use Rattle.scan.specs.Scan.{rank_of, scan_rank}

-- an accepted sheet is in the admitted ranges
pub admitted_of : (bytes : List ℕ) (c : Counts) → verdict bytes ≡ Ok c → Admitted (sheet_of bytes c)
admitted_of bytes c e =
    let s = (accepted bytes c e).sheet in
    let p = s.policy in
    record {
      stops = s.most_stops;
      aboards = s.most_aboards;
      waits = s.most_waits;
      stop_at_lem = λ j l. (s.stop j l).position;
      car_at = λ i l. (s.car i l).position;
      speed = λ i l. (s.car i l).speed;
      capacity = λ i l. (s.car i l).capacity;
      load = λ i l. (s.car i l).load;
      ticks = λ i l. (s.car i l).ticks;
      weight = λ w l. (s.waiting w l).weight;
      wait = λ w l. (s.waiting w l).wait;
      rate = p.rate;
      w0 = p.w0;
      w1 = p.w1;
      w2 = p.w2;
      w3 = p.w3;
      w4 = p.w4;
      w5 = p.w5;
    }

-- the rank of car i for stop j
pub record Ranked (s : Sheet) (i j : ℕ) : Type 0 where
  -- where there is one, 0 is at most it, and it is finite
  pub nonneg : (x : Float) → rank s i j ≡ Some x → (le Num.zero x ≡ true) × (finite x ≡ true)
  -- and none is lost because a cost is not finite: under ETD and RSR a useful pair of a car that can move has a rank, its cost
  pub etd : s.policy.strategy ≡ Etd → pair_is_useful s i j false ≡ true → lt Num.zero (s.car i).speed ≡ true
      → rank s i j ≡ Some (fair_cost s i j)
  pub rsr : s.policy.strategy ≡ Rsr → pair_is_useful s i j true ≡ true → lt Num.zero (s.car i).speed ≡ true
      → rank s i j ≡ Some (rsr_cost s i j)

module _ (s : Sheet) (a : Admitted s) (i j : ℕ) (li : i < s.cars) (lj : j < s.stops) where
  scan_nonneg : (x : Float) → scan_rank s (sweep_after s i) i j ≡ Some x → (le Num.zero x ≡ true) × (finite x ≡ true)
  unfolding scan_rank rank_of
  scan_nonneg x h = by (pair_is_useful s i j false) h
    where
      by : (b : Bool) → cond b (sweep_rank (sweep_after s i) (s.car i).position (stop_at s j)) None ≡ Some x → (le Num.zero x ≡ true)
          × (finite x ≡ true)
      by true e = sweep_nonneg (sweep_after s i) (s.car i).position (stop_at s j) x (a.car_at i li) (a.stop_at_lem j lj) e
      by false e = let z : ◌≡◌ {A = ℕ} 0 1 = cc in absurd (omega arith)

  by_nonneg : (t : Strategy) (x : Float) → by_strategy t (etd_rank s i j) (rsr_rank s i j) (scan_rank s (sweep_after s i) i j) None ≡ Some x
      → (le Num.zero x ≡ true) × (finite x ≡ true)
  by_nonneg Etd x h = etd_nonneg s i j x h
  by_nonneg Rsr x h = rsr_nonneg s i j x h
  by_nonneg Scan x h = scan_nonneg x h
  by_nonneg Unknown x h = let z : ◌≡◌ {A = ℕ} 0 1 = cc in absurd (omega arith)

-- "In the admitted ranges every rank is finite and nonnegative."
pub ranked_of : (bytes : List ℕ) (c : Counts) → verdict bytes ≡ Ok c → (i j : ℕ) → i < (sheet_of bytes c).cars
    → j < (sheet_of bytes c).stops
    → Ranked (sheet_of bytes c) i j
unfolding rank
ranked_of bytes c e i j li lj = admitted_ranked (sheet_of bytes c) (admitted_of bytes c e) i j li lj
  where
    admitted_ranked : (s : Sheet) → Admitted s → (i j : ℕ) → i < s.cars → j < s.stops → Ranked s i j
    admitted_ranked s a i j li lj =
        let by : Strategy → Option Float = λ t. by_strategy t (etd_rank s i j) (rsr_rank s i j) (scan_rank s (sweep_after s i) i j) None in
        record {
          nonneg = λ x h. by_nonneg s a i j li lj s.policy.strategy x h;
          etd = λ q u m. ap by q ∙ etd_ranked s a i j li lj m u;
          rsr = λ q u m. ap by q ∙ rsr_ranked s a i j li lj m u;
        }
