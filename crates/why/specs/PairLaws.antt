-- Reasons and terms from what is held are the sheet's. Assumes nothing.
use Rattle.std.specs.Prelude.{Ok}
use Rattle.std.specs.Prelude.{ℕ, ◌≤◌, ◌<◌, ◌≡◌, refl, Bool, false, List, eqb, get_or, Float}
use Rattle.std.proofs.Common.{◌∙◌, arith}
use Rattle.std.proofs.Math.Path.{ap, ap₂}
use Rattle.laws.specs.Folds.{lookup_cong}
use Rattle.fp.specs.Num.{zero}
use Rattle.mask.specs.Mask.{has, built}
use Rattle.mask.specs.MaskLaws.{has_built}
use Rattle.components.specs.declared.Car.{Car}
use Rattle.components.specs.declared.Policy.{Policy}
use Rattle.components.specs.declared.Strategy.{Strategy}
use Rattle.components.specs.Points.{distance}
use Rattle.components.specs.Sheet.{Sheet}
use Rattle.layout.specs.declared.Counts.{Counts}
use Rattle.layout.specs.Records.{sheet_of, limit_of}
use Rattle.layout.specs.Verdict.{verdict}
use Rattle.accepted.specs.Accepted.{accepted}
use Rattle.manifest.specs.declared.Waiters.{Waiters}
use Rattle.manifest.specs.World.{stop_id, stop_at}
use Rattle.manifest.specs.Stops.{HoldsStops, stop_index, point_in, point_is}
use Rattle.dispatch.specs.WaitersLaws.{HoldsWaiters, Weighed}
use Rattle.dispatch.proofs.RidersLaws.{obstacle_is}
use Rattle.dispatch.specs.Useful.{obstacle}
use Rattle.etd.specs.Pairs.{terms_by as etdBy}
use Rattle.etd.specs.Etd.{etd_terms}
use Rattle.etd.specs.EtdLaws.{terms_are as etd-are}
use Rattle.rsr.specs.Rsr.{rsr_terms, rsr_terms_of}
use Rattle.assignment.specs.Pending.{idle, pending}
use Rattle.assignment.specs.Candidates.{line_serves, line_serves_of}
use Rattle.assignment.specs.Cells.{by_strategy}
use Rattle.pending.specs.declared.StopMasks.{StopMasks}
use Rattle.pending.specs.Masks.{stop_mask, line_stop, pending_are}
use Rattle.rows.specs.HeldLaws.{below_has}
use Rattle.rows.specs.Gathered.{waiters_at, Gathered, gathered_held}
use Rattle.cells.specs.Survey.{SeenStops, weighed_of}
use Rattle.dispatch.specs.declared.Row.{Row}
use Rattle.ranking.specs.Ranking.{halts_by}
use Rattle.ranking.specs.RankingLaws.{by_parts, HoldsRow, rank_is}
use Rattle.why.specs.Why.{asks_path, etd_slots, rsr_slots, scan_slots, terms_of, stop_record, reason_of, why_by, why_at}
use Rattle.why.specs.Pairs.{terms_by, against, reason_by}

-- a car's line serves a stop, by the mask of its stops
pub serves_is : (s : Sheet) (car : Car) (m j : ℕ) → j < 64 → m ≡ built (line_stop s false car.line s.lines) 64
    → has m j ≡ line_serves_of s car j
unfolding line_stop line_serves_of
serves_is s car m j l e = ap (λ (n : ℕ). has n j) e ∙ has_built (line_stop s false car.line s.lines) j l

-- the record of a stop, by the list of ids
pub record_is : (s : Sheet) (ids : List ℕ) (xs : List Float) → HoldsStops s ids xs s.stops → (id : ℕ)
    → stop_index ids s.stops id ≡ stop_record s id
unfolding stop_index stop_record
record_is s ids xs h id =
    lookup_cong (λ j. eqb (get_or ids j 0) id) (λ j. eqb (stop_id s j) id) (λ j. j) (λ j. j) s.stops s.stops
    (λ k l. ap (λ (z : ℕ). eqb z id) (h.id_of k l)) (λ k l. refl)

module _ (s : Sheet) (ids : List ℕ) (xs : List Float) (hs : HoldsStops s ids xs s.stops) (i limit : ℕ) (weighed : Weighed s i)
    (row : Row) (dests sides : List Float) (h : HoldsRow s i limit row dests sides) (j : ℕ)
    (v : Waiters) (hv : HoldsWaiters s j v) (l : j < s.stops) where
  pub terms_are : terms_by row dests sides v xs s.stops j ≡ terms_of s i j
  unfolding terms_by terms_of
  terms_are =
      ap
      (λ (t : Strategy). by_strategy t
      (etd_slots (etdBy row.policy row.car row.goal row.riders.count dests sides v (halts_by row xs s.stops j) (point_in xs j)))
      (rsr_slots (rsr_terms_of row.policy row.car row.goal v.waitsum (has row.car.calls j) (point_in xs j)))
      (scan_slots (distance row.car.position (point_in xs j))) (scan_slots zero))
      (ap (λ (p : Policy). p.strategy) h.policy)
      ∙ by_parts s.policy.strategy (scan_slots zero) (etd_slots (etd_terms s i j)) (rsr_slots (rsr_terms s i j))
      (scan_slots (distance (s.car i).position (stop_at s j)))
      (rw (h.policy, h.car, h.goal_is, point_is s ids xs s.stops hs j l)
      (ap etd_slots (etd-are s ids xs s.stops row.demand hs h.demand i j l row.riders dests sides h.riders v hv)))
      (rw (h.policy, h.car, h.goal_is, point_is s ids xs s.stops hs j l, hv.waitsum))
      (rw (h.car, point_is s ids xs s.stops hs j l))

  against_is : against row dests sides v xs s.stops j ≡ obstacle s i j (asks_path s.policy.strategy)
  against_is =
      rw (h.policy, h.car, h.goal_is, point_is s ids xs s.stops hs j l)
      (obstacle_is s i j weighed row.riders dests sides h.riders v hv (asks_path s.policy.strategy) l)

  pub reason_is : {waits served : Bool} → waits ≡ pending s j → served ≡ line_serves s i j
      → reason_by row dests sides v xs s.stops j waits served ≡ reason_of s limit i j
  unfolding reason_by reason_of idle
  reason_is ew es =
      rw (against_is, rank_is s ids xs hs i limit weighed row dests sides h j v hv l, h.kept_is j l, h.car, ew, es)

  -- of the pair, where m is the mask of the stops that the car's line serves
  pub pair_is : (pend m : ℕ) {waits served : Bool} → s.stops ≤ 64 → pend ≡ stop_mask s (pending s) → waits ≡ has pend j
      → m ≡ built (line_stop s false row.car.line s.lines) 64 → served ≡ has m j
      → why_by (reason_by row dests sides v xs s.stops j waits served) (terms_by row dests sides v xs s.stops j) ≡ why_at s limit i j
  unfolding why_at
  pair_is pend m few ep ew em es =
      ap₂ why_by
      (reason_is (ew ∙ below_has s (pending s) pend few ep j l)
      (es ∙ serves_is s row.car m j (omega arith) em ∙ ap (λ (c : Car). line_serves_of s c j) h.car))
      terms_are

-- of an accepted sheet, where its stops were seen
module _ (bytes : List ℕ) (c : Counts) (e : verdict bytes ≡ Ok c) (ids : List ℕ) (xs : List Float) (masks : StopMasks)
    (seen : SeenStops (sheet_of bytes c) ids xs masks) where
  pub told : (i j : ℕ) → i < (sheet_of bytes c).cars → j < (sheet_of bytes c).stops → (row : Row) {dests sides : List Float} {limit : ℕ}
      → limit ≡ limit_of bytes → HoldsRow (sheet_of bytes c) i limit row dests sides → (someone : ℕ) (entry sums : List Float) {v : Waiters}
      → Gathered (sheet_of bytes c) masks.calls someone entry sums → v ≡ waiters_at someone masks.calls sums j
      → (m : ℕ) {waits served : Bool} → m ≡ built (line_stop (sheet_of bytes c) false row.car.line (sheet_of bytes c).lines) 64
      → served ≡ has m j → waits ≡ has masks.pending j
      → why_by (reason_by row dests sides v xs (sheet_of bytes c).stops j waits served)
      (terms_by row dests sides v xs (sheet_of bytes c).stops j) ≡ why_at (sheet_of bytes c) (limit_of bytes) i j
  told i j li lj row {dests} {sides} {limit} el hr someone entry sums {v} hw ev m em es ew =
      let sound = (accepted bytes c e).sheet in
      pair_is (sheet_of bytes c) ids xs seen.stops_held i limit (weighed_of (sheet_of bytes c) sound i li) row dests sides hr j
      v (rw ev (gathered_held (sheet_of bytes c) masks.calls someone entry sums hw j lj)) lj masks.pending m sound.most_stops
      (pending_are (sheet_of bytes c) seen.masks_are) ew em es
      ∙ ap (λ (z : ℕ). why_at (sheet_of bytes c) z i j) el
