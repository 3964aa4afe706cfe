-- Masks of a sheet's stops, each of stops with a record only. Assumes nothing.
use Rattle.std.specs.Prelude.{ℕ, ◌<◌, ◌≡◌, Bool, ◌&&◌, ◌||◌, cond, List, eqb, ltb, get_or}
use Rattle.std.proofs.Common.{ap, arith}
use Rattle.laws.specs.Folds.{any}
use Rattle.fields.specs.Named.{contains}
use Rattle.mask.specs.Mask.{has, built}
use Rattle.components.specs.declared.Aboard.{Aboard}
use Rattle.components.specs.declared.Demand.{Demand}
use Rattle.components.specs.Sheet.{Sheet}
use Rattle.manifest.specs.World.{stop_id}
use Rattle.manifest.specs.Stops.{Ascending}
use Rattle.manifest.specs.Manifest.{riderless_call, demand_stop}
use Rattle.assignment.specs.Pending.{idle, pending}
use Rattle.covered.specs.Walk.{with_named}
use Rattle.pending.specs.declared.StopMasks.{StopMasks}

-- the stops with a record that pass
abbrev pub stop_mask : Sheet → (ℕ → Bool) → ℕ
stop_mask s p = built (λ j. ltb j s.stops && p j) 64

-- those with a call without a rider, those with demand, the pending ones
abbrev pub masks_of : Sheet → StopMasks
masks_of s = record { calls = stop_mask s (riderless_call s); demand = stop_mask s (demand_stop s); pending = stop_mask s (pending s) }

module _ (s : Sheet) {masks : StopMasks} (e : masks ≡ masks_of s) where
  pub calls_are : masks.calls ≡ stop_mask s (riderless_call s)
  calls_are = ap (λ (m : StopMasks). m.calls) e

  pub demand_is : masks.demand ≡ stop_mask s (demand_stop s)
  demand_is = ap (λ (m : StopMasks). m.demand) e

  pub pending_are : masks.pending ≡ stop_mask s (pending s)
  pending_are = ap (λ (m : StopMasks). m.pending) e

-- the stops of every line, or of the lines with this id
unfoldable pub line_stop : Sheet → Bool → ℕ → ℕ → ℕ → Bool
line_stop s every id n j = any (λ l. (every || eqb (s.line l).id id) && has (s.line l).serves j) n

-- a list holds the ids of the stops, none of them 0, which rise
pub record HoldsNames (s : Sheet) (names : List ℕ) : Type 0 where
  pub held : (j : ℕ) → j < s.stops → get_or names j 0 ≡ stop_id s j
  pub above_zero : (j : ℕ) → j < s.stops → 0 < stop_id s j
  pub rising : (a b : ℕ) → a < b → b < s.stops → stop_id s a < stop_id s b

pub names_rise : {s : Sheet} {names : List ℕ} → HoldsNames s names → Ascending names s.stops
names_rise h = record { rising = λ a b l lb. omega (arith, h.rising a b l lb, h.held a (omega arith), h.held b lb) }

-- a mask with the stop of a demand record: where its call has no rider, and where someone rides to it
abbrev pub with_call : List ℕ → ℕ → ℕ → Demand → ℕ
with_call names n m d = cond d.call (with_named names n m d.stop) m

abbrev pub with_riding : List ℕ → ℕ → ℕ → Demand → ℕ
with_riding names n m d = cond (ltb 0 d.riding) (with_named names n m d.stop) m

-- a mask with the destination of a rider aboard, where its car is among the first k ids
abbrev pub with_bound : List ℕ → ℕ → ℕ → List ℕ → ℕ → Aboard → ℕ
with_bound names n m idle k a = cond (contains idle k a.car) (with_named names n m a.destination) m

-- a list holds the ids of the idle cars
pub record HoldsIdle (s : Sheet) (ids : List ℕ) : Type 0 where
  pub held : (x : ℕ) → 0 < x → contains ids s.cars x ≡ any (λ i. idle s i && eqb (s.car i).id x) s.cars

-- every aboard rider names a car
pub record Boarded (s : Sheet) : Type 0 where
  pub above_zero : (a : ℕ) → a < s.aboards → 0 < (s.aboard a).car
