-- The rank, the cell and the sweep from what is held are the sheet's. Assumes nothing.
use Rattle.std.specs.Prelude.{None}
use Rattle.std.specs.Prelude.{ℕ, ◌<◌, ◌≡◌, refl, Bool, true, not, ◌&&◌, cond, List, eqb, ltb, Float}
use Rattle.std.proofs.Common.{sym, ◌∙◌, true≢false}
use Rattle.std.proofs.Math.Path.{ap}
use Rattle.std.proofs.Math.Bool.{false}
use Rattle.mask.specs.Mask.{has}
use Rattle.components.specs.declared.Policy.{Policy}
use Rattle.components.specs.declared.Strategy.{Strategy}
use Rattle.components.specs.declared.Strategy.TheVariants.{Etd, Rsr, Scan, Unknown}
use Rattle.components.specs.Sheet.{Sheet}
use Rattle.manifest.specs.declared.Waiters.{Waiters}
use Rattle.manifest.specs.World.{goal}
use Rattle.manifest.specs.Stops.{HoldsStops, HoldsDemand, point_is}
use Rattle.scan.specs.Scan.{prepared_sweep, rank_of, scan_rank}
use Rattle.scan.specs.ScanLaws.{prepared_is}
use Rattle.dispatch.specs.WaitersLaws.{HoldsWaiters, Weighed}
use Rattle.dispatch.specs.RidersLaws.{HoldsRiders}
use Rattle.dispatch.proofs.RidersLaws.{useful_is}
use Rattle.etd.specs.Etd.{etd_rank}
use Rattle.etd.specs.Pairs.{rank_by as etdBy}
use Rattle.rsr.specs.Pairs.{rank_by as rsrBy}
use Rattle.etd.specs.EtdLaws.{rank_is as etd-is}
use Rattle.rsr.specs.Rsr.{rsr_rank}
use Rattle.rsr.specs.RsrLaws.{rank_is as rsr-is}
use Rattle.assignment.specs.Pending.{idle, pending_stops}
use Rattle.assignment.specs.Candidates.{kept}
use Rattle.assignment.specs.Cells.{by_strategy, sweep_after, rank, cell, held_cell}
use Rattle.dispatch.specs.declared.Row.{Row}
use Rattle.ranking.specs.Ranking.{scan_by, halts_by, rank_by, cell_by, held_by, sweep_from, sweep_by}
use Rattle.sweep.specs.Sweeps.{sweep_of}

-- a row holds car i's part of the sheet, under a limit
pub record HoldsRow (s : Sheet) (i limit : ℕ) (row : Row) (dests sides : List Float) : Type 0 where
  pub policy : row.policy ≡ s.policy
  pub car : row.car ≡ s.car i
  pub sweep : row.sweep ≡ sweep_after s i
  pub goal_is : row.goal ≡ goal s i
  pub riders : HoldsRiders s i row.riders dests sides
  pub demand : HoldsDemand s row.demand s.stops
  pub kept_is : (j : ℕ) → j < s.stops → has row.kept j ≡ kept s i limit j

-- the case of a strategy
pub by_etd : {A : Type 0} (t : Strategy) (e r s u : A) → t ≡ Etd → e ≡ by_strategy t e r s u
by_etd t e r s u h = sym (ap (λ (x : Strategy). by_strategy x e r s u) h)

pub by_rsr : {A : Type 0} (t : Strategy) (e r s u : A) → t ≡ Rsr → r ≡ by_strategy t e r s u
by_rsr t e r s u h = sym (ap (λ (x : Strategy). by_strategy x e r s u) h)

pub by_scan : {A : Type 0} (t : Strategy) (e r s u : A) → t ≡ Scan → s ≡ by_strategy t e r s u
by_scan t e r s u h = sym (ap (λ (x : Strategy). by_strategy x e r s u) h)

-- case by case
pub by_parts : {A : Type 0} (t : Strategy) (d : A) {a b c : A} (x y z : A) → a ≡ x → b ≡ y → c ≡ z
    → by_strategy t a b c d ≡ by_strategy t x y z d
by_parts Etd d x y z p q r = p
by_parts Rsr d x y z p q r = q
by_parts Scan d x y z p q r = r
by_parts Unknown d x y z p q r = refl

module _ (s : Sheet) (ids : List ℕ) (xs : List Float) (hs : HoldsStops s ids xs s.stops) (i limit : ℕ) (weighed : Weighed s i)
    (row : Row) (dests sides : List Float) (h : HoldsRow s i limit row dests sides) (j : ℕ)
    (v : Waiters) (hv : HoldsWaiters s j v) (l : j < s.stops) where
  scan_is : scan_by row dests v xs j ≡ scan_rank s (sweep_after s i) i j
  unfolding scan_by rank_of scan_rank
  scan_is =
      rw (
        h.sweep,
        h.car,
        h.goal_is,
        point_is s ids xs s.stops hs j l,
        useful_is s i j weighed row.riders dests sides h.riders v hv false l,
      )

  pub rank_is : rank_by row dests sides v xs s.stops j ≡ rank s i j
  unfolding rank_by rank
  rank_is =
      ap
      (λ (t : Strategy). by_strategy t
      (etdBy row.policy row.car row.goal row.riders dests sides v (halts_by row xs s.stops j) xs j)
      (rsrBy row.policy row.car row.goal row.riders dests v xs j)
      (scan_by row dests v xs j) None)
      (ap (λ (p : Policy). p.strategy) h.policy)
      ∙ by_parts s.policy.strategy None (etd_rank s i j) (rsr_rank s i j) (scan_rank s (sweep_after s i) i j)
      (rw (h.policy, h.car, h.goal_is)
      (etd-is s ids xs s.stops row.demand hs h.demand i j l row.riders dests sides h.riders weighed v hv))
      (rw (h.policy, h.car, h.goal_is) (rsr-is s ids xs s.stops hs i j row.riders dests sides h.riders v hv weighed l))
      scan_is

  pub cell_is : cell_by row dests sides v xs s.stops j ≡ cell s limit i j
  unfolding cell_by cell
  cell_is = rw (h.kept_is j l, rank_is)

  pub held_is : held_by row dests sides v xs s.stops j ≡ held_cell s limit i j
  unfolding held_by held_cell
  held_is = rw (h.kept_is j l, rank_is)

-- the sweep of car i after the pass
pub sweep_is : (s : Sheet) (ids : List ℕ) (xs : List Float) (pending demand : ℕ) → HoldsStops s ids xs s.stops
    → HoldsDemand s demand s.stops
    → not (eqb pending 0) ≡ ltb 0 (pending_stops s) → (i : ℕ) → sweep_by s.policy.strategy (s.car i) pending demand xs s.stops ≡ sweep_after s i
unfolding sweep_from sweep_after idle
sweep_is s ids xs pending demand hs hd e i =
    by_parts s.policy.strategy (sweep_of (s.car i)) (sweep_of (s.car i)) (sweep_of (s.car i))
    (cond (idle s i && ltb 0 (pending_stops s)) (prepared_sweep s i) (sweep_of (s.car i)))
    refl refl
    (rw e (ap (λ w. cond ((s.car i).listed && ltb 0 (pending_stops s)) w (sweep_of (s.car i))) (prepared_is s ids xs s.stops demand hs hd i)))
