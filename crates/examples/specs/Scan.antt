-- A sheet under SCAN with a stop that is barred to a car. Assumes nothing.
--
-- SCAN, no limit. Stops 1, 2, 3 at 0, 10, 20; line 1 serves all.
--   car 7, idle-listed, phase idle, at 10, capacity 100, load 0, sweep up, lenient; stop 3 is barred to it
--   car 8, idle-listed, phase idle, at 20, capacity 100, load 0, sweep up, strict
-- Rider-less calls at stops 1 and 3, the pending stops. n = 2, m = 2.
-- Sweeps: stop 3 at 20 is strictly ahead of car 7, and counts although it is barred: up, strict. Nothing is above 20 + 1e-9: car 8 turns round,
-- down, lenient.
--   car 7 to stop 1: 0 is behind it: no rank
--   car 7 to stop 3: barred, so not viable
--   car 8 to stop 1: 20
--   car 8 to stop 3: at the car, 20 < 20 + 1e-9: 0
-- Least: car 8 to stop 3 for 0, car 7 stays for the sentinel, in column 0.
use Rattle.std.specs.Prelude.{Ok}
use Rattle.std.specs.Prelude.{ℕ, ◌≡◌, refl, List, [], ◌∷◌, true, false}
use Rattle.scale.specs.Scale.{sentinel}
use Rattle.layout.specs.declared.Counts.{Counts}
use Rattle.layout.specs.Records.{sheet_of, limit_of}
use Rattle.layout.specs.Verdict.{verdict}
use Rattle.components.specs.Sheet.{Sheet}
use Rattle.scan.specs.Scan.{strict_demand_ahead}
use Rattle.assignment.specs.Candidates.{barred, viable}
use Rattle.examples.specs.Pass.{Passes, pass}

unfoldable pub bytes : List ℕ
bytes =
    1 ∷ 0 ∷ 9 ∷ 4 ∷ 7 ∷ 82 ∷ 255 ∷ 255 ∷ 64 ∷ 78 ∷ 0 ∷ 0 ∷ 0 ∷ 0 ∷ 0 ∷ 0 ∷ 0 ∷ 0 ∷ 0 ∷ 0 ∷ 0 ∷ 0 ∷ 0 ∷ 0 ∷ 0 ∷ 0 ∷ 0 ∷ 0 ∷ 0 ∷ 0 ∷ 0 ∷ 0 ∷ 0 ∷ 0 ∷ 0 ∷
    0 ∷ 0 ∷ 0 ∷ 0 ∷ 0 ∷ 0 ∷ 0 ∷ 0 ∷ 0 ∷ 0 ∷ 0 ∷ 0 ∷ 0 ∷ 0 ∷ 0 ∷ 0 ∷ 0 ∷ 0 ∷ 0 ∷ 0 ∷ 0 ∷ 0 ∷ 0 ∷ 0 ∷ 0 ∷ 0 ∷ 0 ∷ 0 ∷ 0 ∷ 2 ∷ 0 ∷ 96 ∷ 0 ∷ 0 ∷ 0 ∷ 1 ∷
    0 ∷ 0 ∷ 0 ∷ 0 ∷ 0 ∷ 0 ∷ 0 ∷ 0 ∷ 8 ∷ 1 ∷ 128 ∷ 0 ∷ 0 ∷ 0 ∷ 9 ∷ 0 ∷ 144 ∷ 0 ∷ 0 ∷ 0 ∷ 0 ∷ 0 ∷ 0 ∷ 32 ∷ 6 ∷ 0 ∷ 0 ∷ 0 ∷ 0 ∷ 52 ∷ 3 ∷ 64 ∷ 0 ∷ 0 ∷ 0 ∷
    0 ∷ 0 ∷ 0 ∷ 192 ∷ 24 ∷ 0 ∷ 0 ∷ 0 ∷ 0 ∷ 120 ∷ 0 ∷ 0 ∷ 0 ∷ 0 ∷ 0 ∷ 0 ∷ 0 ∷ 4 ∷ 2 ∷ 203 ∷ 0 ∷ 0 ∷ 0 ∷ 7 ∷ 0 ∷ 0 ∷ 0 ∷ 1 ∷ 0 ∷ 0 ∷ 0 ∷ 0 ∷ 0 ∷ 0 ∷ 0 ∷
    0 ∷ 14 ∷ 160 ∷ 18 ∷ 0 ∷ 0 ∷ 0 ∷ 0 ∷ 0 ∷ 0 ∷ 32 ∷ 0 ∷ 0 ∷ 0 ∷ 0 ∷ 0 ∷ 0 ∷ 0 ∷ 32 ∷ 44 ∷ 128 ∷ 0 ∷ 0 ∷ 0 ∷ 0 ∷ 0 ∷ 0 ∷ 0 ∷ 0 ∷ 0 ∷ 0 ∷ 0 ∷ 0 ∷ 0 ∷
    0 ∷ 0 ∷ 0 ∷ 0 ∷ 0 ∷ 0 ∷ 0 ∷ 0 ∷ 0 ∷ 0 ∷ 0 ∷ 0 ∷ 0 ∷ 0 ∷ 0 ∷ 0 ∷ 0 ∷ 0 ∷ 0 ∷ 0 ∷ 0 ∷ 0 ∷ 0 ∷ 0 ∷ 4 ∷ 0 ∷ 0 ∷ 0 ∷ 0 ∷ 0 ∷ 0 ∷ 0 ∷ 0 ∷ 0 ∷ 0 ∷ 0 ∷
    0 ∷ 0 ∷ 0 ∷ 0 ∷ 2 ∷ 1 ∷ 101 ∷ 128 ∷ 0 ∷ 0 ∷ 4 ∷ 0 ∷ 0 ∷ 0 ∷ 0 ∷ 128 ∷ 0 ∷ 0 ∷ 0 ∷ 0 ∷ 0 ∷ 0 ∷ 0 ∷ 7 ∷ 16 ∷ 13 ∷ 0 ∷ 0 ∷ 0 ∷ 0 ∷ 0 ∷ 0 ∷ 16 ∷ 0 ∷
    0 ∷ 0 ∷ 0 ∷ 0 ∷ 0 ∷ 0 ∷ 16 ∷ 22 ∷ 64 ∷ 0 ∷ 0 ∷ 0 ∷ 0 ∷ 0 ∷ 0 ∷ 0 ∷ 0 ∷ 0 ∷ 0 ∷ 0 ∷ 0 ∷ 0 ∷ 0 ∷ 0 ∷ 0 ∷ 0 ∷ 0 ∷ 0 ∷ 0 ∷ 0 ∷ 0 ∷ 0 ∷ 0 ∷ 0 ∷ 0 ∷ 0 ∷
    0 ∷ 0 ∷ 0 ∷ 0 ∷ 0 ∷ 0 ∷ 0 ∷ 0 ∷ 0 ∷ 0 ∷ 0 ∷ 0 ∷ 0 ∷ 0 ∷ 0 ∷ 0 ∷ 0 ∷ 0 ∷ 0 ∷ 0 ∷ 0 ∷ 0 ∷ 0 ∷ 0 ∷ 0 ∷ 0 ∷ 1 ∷ 192 ∷ 12 ∷ 64 ∷ 0 ∷ 0 ∷ 0 ∷ 64 ∷ 0 ∷
    35 ∷ 128 ∷ 24 ∷ 128 ∷ 0 ∷ 0 ∷ 1 ∷ 128 ∷ 0 ∷ 64 ∷ []

unfoldable pub counts : Counts
counts = record { across = 0; policies = 1; stops = 3; lines = 1; cars = 2; aboards = 0; waits = 0; demands = 2; closures = 0 }

unfoldable pub sheet : Sheet
sheet = sheet_of bytes counts

unfoldable pub opened : ℕ
unfolding pass bytes counts sheet
opened = 0

pub accepted : verdict bytes ≡ Ok counts
unfolding opened
accepted = refl

-- stop 3 is barred to car 7, so it is not viable for it
pub stop_three : (barred sheet 0 2 ≡ true) × (viable sheet 0 2 ≡ false) × (strict_demand_ahead sheet 0 ≡ true) × (strict_demand_ahead sheet 1 ≡ false)
unfolding opened
stop_three = (refl, refl, refl, refl)

-- 0 is up and strict, 3 is down and lenient
pub passed : Passes sheet (limit_of bytes) 2 2 (sentinel ∷ sentinel ∷ 20_000_000 ∷ 0 ∷ []) 281_474_976_710_656 (0 ∷ 3 ∷ []) (0 ∷ 3 ∷ [])
unfolding opened
passed = record { cars = refl; stops = refl; filled = refl; totalled = refl; decided = refl; swept = refl }
