-- What the stops of an accepted sheet give the stages that make masks of them. Assumes nothing.
use Rattle.std.specs.Prelude.{Ok}
use Rattle.std.specs.Prelude.{ℕ, ◌≤◌, ◌≡◌, List, ◌++◌, length, Float}
use Rattle.std.proofs.Common.{arith}
use Rattle.laws.specs.Tables.{tab}
use Rattle.components.specs.Sheet.{Sheet}
use Rattle.layout.specs.declared.Counts.{Counts}
use Rattle.layout.specs.Records.{sheet_of}
use Rattle.layout.specs.Verdict.{verdict}
use Rattle.accepted.specs.Accepted.{accepted}
use Rattle.manifest.specs.World.{stop_id, stop_at}
use Rattle.manifest.specs.Stops.{HoldsStops}
use Rattle.pending.specs.declared.StopMasks.{StopMasks}
use Rattle.pending.specs.Masks.{masks_of, HoldsNames, Boarded}
use Rattle.cells.specs.Survey.{SeenStops, coordinates, holds_stops}
use Rattle.cells.specs.Ids.{rising_of}

pub record Begun (bytes : List ℕ) (c : Counts) (ids : List ℕ) (xs : List Float) : Type 0 where
  pub stops_held : HoldsStops (sheet_of bytes c) ids xs c.stops
  pub names : HoldsNames (sheet_of bytes c) ids
  pub boarded : Boarded (sheet_of bytes c)
  pub few_demands : c.demands ≤ 64
  pub few_closures : c.closures ≤ 64

pub begun : (bytes : List ℕ) (c : Counts) → verdict bytes ≡ Ok c → (ids : List ℕ) (xs : List Float) (r : List ℕ) (q : List Float)
    → ids ≡ tab (stop_id (sheet_of bytes c)) c.stops ++ r → xs ≡ coordinates (stop_at (sheet_of bytes c)) c.stops q → length q ≡ 128
    → Begun bytes c ids xs
unfolding sheet_of
begun bytes c e ids xs r q ei ex size =
    let sound = (accepted bytes c e).sheet in
    let held = holds_stops (sheet_of bytes c) ids xs r q ei ex sound.most_stops size in
    record {
      stops_held = held;
      names = record { held = held.id_of; above_zero = (rising_of bytes c e).above_zero; rising = (rising_of bytes c e).rising };
      boarded = record { above_zero = λ a l. let (i, b, q) = sound.aboard a l in omega (arith, q, (sound.car i b).id) };
      few_demands = omega (arith, sound.most_demands, sound.most_stops);
      few_closures = omega (arith, sound.most_closures, sound.most_stops);
    }

-- the stops are seen where their ids, points and masks are at hand
pub stops_seen : (s : Sheet) {ids : List ℕ} {xs : List Float} (r : List ℕ) (q : List Float) {masks : StopMasks} → ids ≡ tab (stop_id s) s.stops ++ r
    → xs ≡ coordinates (stop_at s) s.stops q → masks ≡ masks_of s → s.stops ≤ 64 → length q ≡ 128 → SeenStops s ids xs masks
stops_seen s {ids} {xs} r q ei ex em few size = record { stops_held = holds_stops s ids xs r q ei ex few size; masks_are = em }
