-- A sheet under RSR in an up peak. Assumes nothing.
--
-- RSR, no limit, up peak, weights eta 1, wrong direction 15, coincident call 2, load 0, age 0, peak multiplier 2.
-- Stops 1, 2, 3 at 0, 10, 20; line 1 serves all.
--   car 7, idle-listed, moving to stop 3, at 10, speed 2, capacity 100, load 0, a car call for stop 3
--   car 8, idle-listed, phase idle, at 15, speed 2, capacity 100, load 75; aboard: a rider bound for stop 2
-- Rider-less calls at stops 1 and 3; at stop 2 a riding count of 1. No car has a target, so none is covered: all three are pending. n = 2, m = 3.
--   car 7 to stop 1: eta 1 × 10 / 2 = 5; it moves up and the stop is below, 15 × 2 = 30 for the wrong direction in the peak: 35
--   car 7 to stop 2: nobody waits there and no hall call is there: of no use, no rank
--   car 7 to stop 3: eta 5; the same direction; the call coincides, 5 - 2 = 3
--   car 8 to stop 1: the rider's path is from 15 to 10, and stop 1 at 0 lies past its end: no rank
--   car 8 to stop 2: the rider gets out there; eta 1 × 5 / 2 = 2.5
--   car 8 to stop 3: 20 is on the other side of the car than 10: no rank
-- Least: car 7 to stop 3, car 8 to stop 2, 3 + 2.5 = 5.5.
use Rattle.std.specs.Prelude.{Ok}
use Rattle.std.specs.Prelude.{ℕ, ◌≡◌, refl, List, [], ◌∷◌, true, false}
use Rattle.scale.specs.Scale.{sentinel}
use Rattle.layout.specs.declared.Counts.{Counts}
use Rattle.layout.specs.Records.{sheet_of, limit_of}
use Rattle.layout.specs.Verdict.{verdict}
use Rattle.components.specs.Sheet.{Sheet}
use Rattle.dispatch.specs.Useful.{pair_is_useful}
use Rattle.examples.specs.Pass.{Passes, pass}

unfoldable pub bytes : List ℕ
bytes =
    1 ∷ 0 ∷ 11 ∷ 4 ∷ 7 ∷ 81 ∷ 255 ∷ 255 ∷ 64 ∷ 78 ∷ 0 ∷ 0 ∷ 0 ∷ 0 ∷ 0 ∷ 0 ∷ 79 ∷ 252 ∷ 0 ∷ 0 ∷ 0 ∷ 0 ∷ 0 ∷ 0 ∷ 16 ∷ 11 ∷ 128 ∷ 0 ∷ 0 ∷ 0 ∷ 0 ∷ 0 ∷
    16 ∷ 0 ∷ 0 ∷ 0 ∷ 0 ∷ 0 ∷ 0 ∷ 0 ∷ 0 ∷ 0 ∷ 0 ∷ 0 ∷ 0 ∷ 0 ∷ 0 ∷ 0 ∷ 0 ∷ 0 ∷ 0 ∷ 0 ∷ 0 ∷ 0 ∷ 0 ∷ 0 ∷ 16 ∷ 0 ∷ 0 ∷ 0 ∷ 0 ∷ 0 ∷ 0 ∷ 0 ∷ 2 ∷ 0 ∷ 96 ∷ 0 ∷
    0 ∷ 0 ∷ 1 ∷ 0 ∷ 0 ∷ 0 ∷ 0 ∷ 0 ∷ 0 ∷ 0 ∷ 0 ∷ 8 ∷ 1 ∷ 128 ∷ 0 ∷ 0 ∷ 0 ∷ 9 ∷ 0 ∷ 144 ∷ 0 ∷ 0 ∷ 0 ∷ 0 ∷ 0 ∷ 0 ∷ 32 ∷ 6 ∷ 0 ∷ 0 ∷ 0 ∷ 0 ∷ 52 ∷ 3 ∷ 64 ∷
    0 ∷ 0 ∷ 0 ∷ 0 ∷ 0 ∷ 0 ∷ 192 ∷ 24 ∷ 0 ∷ 0 ∷ 0 ∷ 0 ∷ 120 ∷ 0 ∷ 0 ∷ 0 ∷ 0 ∷ 0 ∷ 0 ∷ 0 ∷ 4 ∷ 2 ∷ 203 ∷ 0 ∷ 0 ∷ 0 ∷ 7 ∷ 0 ∷ 0 ∷ 0 ∷ 1 ∷ 32 ∷ 0 ∷ 0 ∷
    0 ∷ 96 ∷ 0 ∷ 0 ∷ 0 ∷ 14 ∷ 32 ∷ 18 ∷ 0 ∷ 0 ∷ 0 ∷ 0 ∷ 0 ∷ 0 ∷ 32 ∷ 0 ∷ 0 ∷ 0 ∷ 0 ∷ 0 ∷ 0 ∷ 0 ∷ 32 ∷ 44 ∷ 128 ∷ 0 ∷ 0 ∷ 0 ∷ 0 ∷ 0 ∷ 0 ∷ 0 ∷ 0 ∷ 0 ∷
    0 ∷ 0 ∷ 0 ∷ 0 ∷ 0 ∷ 0 ∷ 0 ∷ 0 ∷ 0 ∷ 0 ∷ 0 ∷ 0 ∷ 0 ∷ 0 ∷ 0 ∷ 0 ∷ 0 ∷ 0 ∷ 0 ∷ 0 ∷ 0 ∷ 0 ∷ 0 ∷ 0 ∷ 0 ∷ 0 ∷ 0 ∷ 0 ∷ 0 ∷ 0 ∷ 0 ∷ 0 ∷ 0 ∷ 0 ∷ 0 ∷ 0 ∷
    4 ∷ 0 ∷ 0 ∷ 0 ∷ 0 ∷ 0 ∷ 0 ∷ 0 ∷ 2 ∷ 1 ∷ 101 ∷ 128 ∷ 0 ∷ 0 ∷ 4 ∷ 0 ∷ 0 ∷ 0 ∷ 0 ∷ 128 ∷ 0 ∷ 0 ∷ 0 ∷ 0 ∷ 0 ∷ 0 ∷ 0 ∷ 7 ∷ 16 ∷ 11 ∷ 128 ∷ 0 ∷ 0 ∷ 0 ∷
    0 ∷ 0 ∷ 16 ∷ 0 ∷ 0 ∷ 0 ∷ 0 ∷ 0 ∷ 0 ∷ 0 ∷ 16 ∷ 22 ∷ 64 ∷ 0 ∷ 0 ∷ 0 ∷ 0 ∷ 0 ∷ 16 ∷ 20 ∷ 176 ∷ 0 ∷ 0 ∷ 0 ∷ 0 ∷ 0 ∷ 0 ∷ 0 ∷ 0 ∷ 0 ∷ 0 ∷ 0 ∷ 0 ∷ 0 ∷
    0 ∷ 0 ∷ 0 ∷ 0 ∷ 0 ∷ 0 ∷ 0 ∷ 0 ∷ 0 ∷ 0 ∷ 0 ∷ 0 ∷ 0 ∷ 0 ∷ 0 ∷ 0 ∷ 0 ∷ 0 ∷ 0 ∷ 0 ∷ 0 ∷ 0 ∷ 0 ∷ 0 ∷ 0 ∷ 0 ∷ 0 ∷ 0 ∷ 0 ∷ 0 ∷ 0 ∷ 0 ∷ 1 ∷ 64 ∷ 16 ∷ 64 ∷
    0 ∷ 0 ∷ 2 ∷ 32 ∷ 0 ∷ 0 ∷ 0 ∷ 67 ∷ 128 ∷ 24 ∷ 128 ∷ 0 ∷ 0 ∷ 0 ∷ 128 ∷ 0 ∷ 71 ∷ 0 ∷ 49 ∷ 0 ∷ 0 ∷ 0 ∷ 2 ∷ 0 ∷ 1 ∷ 14 ∷ 0 ∷ 98 ∷ 0 ∷ 0 ∷ 0 ∷ 6 ∷ 0 ∷
    1 ∷ []

unfoldable pub counts : Counts
counts = record { across = 0; policies = 1; stops = 3; lines = 1; cars = 2; aboards = 1; waits = 0; demands = 3; closures = 0 }

unfoldable pub sheet : Sheet
sheet = sheet_of bytes counts

unfoldable pub opened : ℕ
unfolding pass bytes counts sheet
opened = 0

pub accepted : verdict bytes ≡ Ok counts
unfolding opened
accepted = refl

-- the aboard-path test alone refuses car 8 stops 1 and 3
pub refused : (pair_is_useful sheet 1 0 false ≡ true) × (pair_is_useful sheet 1 0 true ≡ false) × (pair_is_useful sheet 1 2 false ≡ true)
    × (pair_is_useful sheet 1 2 true ≡ false)
unfolding opened
refused = (refl, refl, refl, refl)

pub passed : Passes sheet (limit_of bytes) 2 3 (35_000_000 ∷ sentinel ∷ 3_000_000 ∷ sentinel ∷ 2_500_000 ∷ sentinel ∷ []) 5_500_000 (3 ∷ 2 ∷ [])
    (0 ∷ 0 ∷ [])
unfolding opened
passed = record { cars = refl; stops = refl; filled = refl; totalled = refl; decided = refl; swept = refl }
