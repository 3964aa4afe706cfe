-- Reasons and terms from what the code holds. Assumes nothing.
use Rattle.std.specs.Prelude.{Option}
use Rattle.std.specs.Prelude.{ℕ, ◌≡◌, Bool, List, Float}
use Rattle.std.proofs.Math.Path.{ap, ap₂}
use Rattle.std.proofs.Common.{◌∙◌}
use Rattle.fp.specs.Num.{zero}
use Rattle.mask.specs.Mask.{has}
use Rattle.components.specs.declared.Point.{Point}
use Rattle.components.specs.declared.Strategy.TheVariants.{Etd, Rsr, Scan, Unknown}
use Rattle.components.specs.Points.{distance}
use Rattle.manifest.specs.declared.Waiters.{Waiters}
use Rattle.manifest.specs.Stops.{point_in}
use Rattle.dispatch.specs.Pairs.{obstacle_by}
use Rattle.etd.specs.declared.Terms as etd
use Rattle.etd.specs.Pairs.{intervening_in, halts_of, terms_by as etdBy}
use Rattle.rsr.specs.declared.Terms as rsr
use Rattle.rsr.specs.Rsr.{rsr_terms_of}
use Rattle.assignment.specs.Cells.{by_strategy}
use Rattle.dispatch.specs.declared.Row.{Row}
use Rattle.ranking.specs.Ranking.{halts_by, rank_by}
use Rattle.ranking.specs.RankingLaws.{by_etd, by_rsr}
use Rattle.why.specs.declared.Terms.{Terms}
use Rattle.why.specs.Why.{first_reason, rank_reason, asks_path, etd_slots, rsr_slots, scan_slots}

module _ (row : Row) (dests sides : List Float) (v : Waiters) (xs : List Float) (n j : ℕ) where
  unfoldable pub terms_by : Terms
  terms_by =
      by_strategy row.policy.strategy
      (etd_slots (etdBy row.policy row.car row.goal row.riders.count dests sides v (halts_by row xs n j) (point_in xs j)))
      (rsr_slots (rsr_terms_of row.policy row.car row.goal v.waitsum (has row.car.calls j) (point_in xs j)))
      (scan_slots (distance row.car.position (point_in xs j)))
      (scan_slots zero)

  abbrev pub against : ℕ
  against =
      obstacle_by row.car row.goal row.riders dests v (has row.riders.exits j) (point_in xs j).along (asks_path row.policy.strategy)

  unfoldable pub reason_by : Bool → Bool → ℕ
  reason_by waits served =
      first_reason row.car.listed waits served (has row.car.restricted j) (has row.kept j)
      (rank_reason against (rank_by row dests sides v xs n j))

-- ---- laws

module _ (row : Row) (dests sides : List Float) (v : Waiters) (xs : List Float) (n j : ℕ) {p : Point} (p-is : p ≡ point_in xs j) {r : Terms} where
  pub etd_terms : {t : etd.Terms} {halts : ℕ} → row.policy.strategy ≡ Etd
      → halts ≡ intervening_in row.car.position.along p.along row.demand xs n
      → t ≡ etdBy row.policy row.car row.goal row.riders.count dests sides v halts p → r ≡ etd_slots t
      → r ≡ terms_by row dests sides v xs n j
  unfolding terms_by
  etd_terms e halts-is t-is r-is =
      r-is
      ∙ ap etd_slots
      (t-is ∙ ap₂ (etdBy row.policy row.car row.goal row.riders.count dests sides v)
      (halts_of row.car.position.along row.demand xs n j p-is halts-is) p-is)
      ∙ by_etd row.policy.strategy _ _ _ _ e

  pub rsr_terms : {t : rsr.Terms} {call : Bool} → row.policy.strategy ≡ Rsr → call ≡ has row.car.calls j
      → t ≡ rsr_terms_of row.policy row.car row.goal v.waitsum call p → r ≡ rsr_slots t → r ≡ terms_by row dests sides v xs n j
  unfolding terms_by
  rsr_terms e call_is t-is r-is =
      r-is ∙ ap rsr_slots (t-is ∙ ap₂ (rsr_terms_of row.policy row.car row.goal v.waitsum) call_is p-is)
      ∙ by_rsr row.policy.strategy _ _ _ _ e

  pub scan_terms : {d : Float} → row.policy.strategy ≡ Scan → d ≡ distance row.car.position p → r ≡ scan_slots d
      → r ≡ terms_by row dests sides v xs n j
  unfolding terms_by
  scan_terms e d-is r-is = rw (e, ← p-is, ← d-is) r-is

  pub no_terms : row.policy.strategy ≡ Unknown → r ≡ scan_slots zero → r ≡ terms_by row dests sides v xs n j
  unfolding terms_by
  no_terms e r-is = rw e r-is

module _ (row : Row) (dests sides : List Float) (v : Waiters) (xs : List Float) (n j : ℕ) where
  pub reason_by_lem : (waits served : Bool) {p : Point} {here path shut near : Bool} {o rest r : ℕ} {given : Option Float} → p ≡ point_in xs j
      → here ≡ has row.riders.exits j → path ≡ asks_path row.policy.strategy
      → o ≡ obstacle_by row.car row.goal row.riders dests v here p.along path → given ≡ rank_by row dests sides v xs n j
      → shut ≡ has row.car.restricted j → near ≡ has row.kept j → rest ≡ rank_reason o given
      → r ≡ first_reason row.car.listed waits served shut near rest → r ≡ reason_by row dests sides v xs n j waits served
  unfolding reason_by
  reason_by_lem waits served p-is here-is path_is o_is rank_is shut-is near-is rest_is r-is =
      rw (← p-is, ← here-is, ← path_is, ← o_is, ← rank_is, ← shut-is, ← near-is, ← rest_is) r-is
