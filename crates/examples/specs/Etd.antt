-- A sheet under ETD with a candidate limit of 1. Assumes nothing.
--
-- ETD, limit 1, tick rate 10, weights wait 1, delay 3, door 2, others 0. Stops 1, 2, 3 at 0, 10, 14; line 1 serves all.
--   car 7, idle-listed, phase idle, at 8, speed 2, capacity 800, load 75, transition 10 ticks, open 20; aboard: a rider bound for stop 1
--   car 8, idle-listed, moving to stop 2, target stop 2, at 2, speed 2, capacity 100, load 0, transition 10 ticks, open 20
-- Waiting: at stop 2 a rider of 80 bound for stop 3, at stop 3 one of 70 bound for stop 1. A rider-less call at stop 1.
--
-- Stop 2 is covered: car 8 serves it, and 80 is at most 100. So the pending stops are 1 and 3, the columns. n = 2, m = 2.
-- A door cycle lasts (2 × 10 + 20) / 10 = 4.
--   car 7 to stop 1: travel 8 / 2 = 4; the rider gets out there, delay (8 + 0 - 8) / 2 = 0; nothing between; bonus -4 × 0.3 = -1.2
--                    1 × 4 + (3 × 0 + (2 × 0 - 1.2)) = 2.8
--   car 7 to stop 3: travel 6 / 2 = 3; delay (6 + 14 - 8) / 2 = 6; stop 2, covered as it is, lies between, doors 1 × 4 = 4; bonus -3 × 0.3 = -0.9
--                    1 × 3 + (3 × 6 + (2 × 4 - 0.9)) = 28.1
--   car 8 to stop 1: travel 2 / 2 = 1; nobody aboard; nothing between; stop 1 is not ahead, no bonus
--                    1 × 1 + (3 × 0 + (2 × 0 + 0)) = 1
--   car 8 to stop 3: travel 12 / 2 = 6; stop 2 lies between, doors 4; stop 3 is beyond where it moves to, no bonus
--                    1 × 6 + (3 × 0 + (2 × 4 + 0)) = 14
-- Car 7 has stop 3 at 6 and stop 1 at 8, car 8 has stop 1 at 2 and stop 3 at 12: a limit of 1 keeps stop 3 for car 7 and stop 1 for car 8.
--   with the limit 1   (sentinel, 28,100,000), (1,000,000, sentinel): car 7 to stop 3, car 8 to stop 1, total 29,100,000
--   with none          (2,800,000, 28,100,000), (1,000,000, 14,000,000): car 7 to stop 1, car 8 to stop 3, total 16,800,000
use Rattle.std.specs.Prelude.{Ok}
use Rattle.std.specs.Prelude.{ℕ, ◌≡◌, refl, List, [], ◌∷◌, true, false}
use Rattle.scale.specs.Scale.{sentinel}
use Rattle.layout.specs.declared.Counts.{Counts}
use Rattle.layout.specs.Records.{sheet_of, limit_of}
use Rattle.layout.specs.Verdict.{verdict}
use Rattle.components.specs.Sheet.{Sheet}
use Rattle.etd.specs.Etd.{intervening_stops}
use Rattle.assignment.specs.Pending.{covered, pending}
use Rattle.assignment.specs.Candidates.{no_limit}
use Rattle.assignment.specs.Cells.{answered_total}
use Rattle.examples.specs.Pass.{Passes, pass}

unfoldable pub bytes : List ℕ
bytes =
    1 ∷ 0 ∷ 11 ∷ 4 ∷ 7 ∷ 80 ∷ 0 ∷ 1 ∷ 64 ∷ 36 ∷ 0 ∷ 0 ∷ 0 ∷ 0 ∷ 0 ∷ 0 ∷ 15 ∷ 252 ∷ 0 ∷ 0 ∷ 0 ∷ 0 ∷ 0 ∷ 0 ∷ 16 ∷ 2 ∷ 0 ∷ 0 ∷ 0 ∷ 0 ∷ 0 ∷ 0 ∷ 16 ∷ 0 ∷
    0 ∷ 0 ∷ 0 ∷ 0 ∷ 0 ∷ 0 ∷ 0 ∷ 0 ∷ 0 ∷ 0 ∷ 0 ∷ 0 ∷ 0 ∷ 0 ∷ 0 ∷ 0 ∷ 0 ∷ 0 ∷ 0 ∷ 0 ∷ 0 ∷ 0 ∷ 0 ∷ 0 ∷ 0 ∷ 0 ∷ 0 ∷ 0 ∷ 0 ∷ 0 ∷ 2 ∷ 0 ∷ 96 ∷ 0 ∷ 0 ∷ 0 ∷
    1 ∷ 0 ∷ 0 ∷ 0 ∷ 0 ∷ 0 ∷ 0 ∷ 0 ∷ 0 ∷ 8 ∷ 1 ∷ 128 ∷ 0 ∷ 0 ∷ 0 ∷ 9 ∷ 0 ∷ 144 ∷ 0 ∷ 0 ∷ 0 ∷ 0 ∷ 0 ∷ 0 ∷ 32 ∷ 6 ∷ 0 ∷ 0 ∷ 0 ∷ 0 ∷ 52 ∷ 2 ∷ 192 ∷ 0 ∷
    0 ∷ 0 ∷ 0 ∷ 0 ∷ 0 ∷ 192 ∷ 24 ∷ 0 ∷ 0 ∷ 0 ∷ 0 ∷ 120 ∷ 0 ∷ 0 ∷ 0 ∷ 0 ∷ 0 ∷ 0 ∷ 0 ∷ 4 ∷ 2 ∷ 203 ∷ 0 ∷ 0 ∷ 0 ∷ 7 ∷ 0 ∷ 0 ∷ 0 ∷ 1 ∷ 0 ∷ 0 ∷ 0 ∷ 0 ∷ 0 ∷
    0 ∷ 0 ∷ 0 ∷ 14 ∷ 32 ∷ 16 ∷ 0 ∷ 0 ∷ 0 ∷ 0 ∷ 0 ∷ 0 ∷ 32 ∷ 0 ∷ 0 ∷ 0 ∷ 0 ∷ 0 ∷ 0 ∷ 0 ∷ 32 ∷ 68 ∷ 128 ∷ 0 ∷ 0 ∷ 0 ∷ 0 ∷ 0 ∷ 32 ∷ 41 ∷ 96 ∷ 0 ∷ 0 ∷ 0 ∷
    0 ∷ 0 ∷ 0 ∷ 0 ∷ 0 ∷ 0 ∷ 0 ∷ 0 ∷ 0 ∷ 0 ∷ 0 ∷ 0 ∷ 0 ∷ 0 ∷ 0 ∷ 0 ∷ 0 ∷ 0 ∷ 0 ∷ 0 ∷ 0 ∷ 1 ∷ 64 ∷ 0 ∷ 0 ∷ 2 ∷ 128 ∷ 0 ∷ 0 ∷ 0 ∷ 0 ∷ 0 ∷ 0 ∷ 0 ∷ 0 ∷ 0 ∷
    0 ∷ 0 ∷ 0 ∷ 0 ∷ 0 ∷ 0 ∷ 2 ∷ 1 ∷ 101 ∷ 128 ∷ 0 ∷ 0 ∷ 4 ∷ 0 ∷ 0 ∷ 0 ∷ 0 ∷ 144 ∷ 0 ∷ 0 ∷ 0 ∷ 40 ∷ 0 ∷ 0 ∷ 0 ∷ 23 ∷ 16 ∷ 0 ∷ 0 ∷ 0 ∷ 0 ∷ 0 ∷ 0 ∷ 0 ∷
    16 ∷ 0 ∷ 0 ∷ 0 ∷ 0 ∷ 0 ∷ 0 ∷ 0 ∷ 16 ∷ 22 ∷ 64 ∷ 0 ∷ 0 ∷ 0 ∷ 0 ∷ 0 ∷ 0 ∷ 0 ∷ 0 ∷ 0 ∷ 0 ∷ 0 ∷ 0 ∷ 0 ∷ 0 ∷ 0 ∷ 0 ∷ 0 ∷ 0 ∷ 0 ∷ 0 ∷ 0 ∷ 0 ∷ 0 ∷ 0 ∷
    0 ∷ 0 ∷ 0 ∷ 0 ∷ 0 ∷ 0 ∷ 0 ∷ 0 ∷ 0 ∷ 160 ∷ 0 ∷ 0 ∷ 1 ∷ 64 ∷ 0 ∷ 0 ∷ 0 ∷ 0 ∷ 0 ∷ 0 ∷ 0 ∷ 0 ∷ 0 ∷ 0 ∷ 0 ∷ 0 ∷ 0 ∷ 0 ∷ 0 ∷ 1 ∷ 64 ∷ 16 ∷ 64 ∷ 0 ∷ 0 ∷
    1 ∷ 224 ∷ 0 ∷ 0 ∷ 0 ∷ 35 ∷ 0 ∷ 113 ∷ 0 ∷ 0 ∷ 0 ∷ 1 ∷ 0 ∷ 0 ∷ 0 ∷ 0 ∷ 32 ∷ 0 ∷ 0 ∷ 0 ∷ 104 ∷ 10 ∷ 128 ∷ 0 ∷ 0 ∷ 0 ∷ 0 ∷ 0 ∷ 0 ∷ 0 ∷ 0 ∷ 0 ∷ 0 ∷ 0 ∷
    0 ∷ 0 ∷ 3 ∷ 0 ∷ 113 ∷ 0 ∷ 0 ∷ 0 ∷ 1 ∷ 128 ∷ 0 ∷ 0 ∷ 0 ∷ 32 ∷ 0 ∷ 0 ∷ 0 ∷ 40 ∷ 10 ∷ 48 ∷ 0 ∷ 0 ∷ 0 ∷ 0 ∷ 0 ∷ 0 ∷ 0 ∷ 0 ∷ 0 ∷ 0 ∷ 0 ∷ 0 ∷ 0 ∷ 3 ∷
    128 ∷ 24 ∷ 128 ∷ 0 ∷ 0 ∷ 0 ∷ 128 ∷ 0 ∷ 64 ∷ []

unfoldable pub counts : Counts
counts = record { across = 0; policies = 1; stops = 3; lines = 1; cars = 2; aboards = 1; waits = 2; demands = 1; closures = 0 }

unfoldable pub sheet : Sheet
sheet = sheet_of bytes counts

unfoldable pub opened : ℕ
unfolding pass bytes counts sheet
opened = 0

pub accepted : verdict bytes ≡ Ok counts
unfolding opened
accepted = refl

-- stop 2 is covered and so not pending, and counts as intervening all the same
pub stop_two : (covered sheet 1 ≡ true) × (pending sheet 1 ≡ false) × (intervening_stops sheet 0 2 ≡ 1)
unfolding opened
stop_two = (refl, refl, refl)

-- the total of a pass
pub limited_total : answered_total sheet (limit_of bytes) ≡ 29_100_000
unfolding opened
limited_total = refl

pub passed : Passes sheet (limit_of bytes) 2 2 (sentinel ∷ 28_100_000 ∷ 1_000_000 ∷ sentinel ∷ []) 29_100_000 (3 ∷ 1 ∷ []) (0 ∷ 0 ∷ [])
unfolding opened
passed = record { cars = refl; stops = refl; filled = refl; totalled = refl; decided = refl; swept = refl }

-- with no limit the total falls, as demand 3 says it may
pub unlimited : Passes sheet no_limit 2 2 (2_800_000 ∷ 28_100_000 ∷ 1_000_000 ∷ 14_000_000 ∷ []) 16_800_000 (1 ∷ 3 ∷ []) (0 ∷ 0 ∷ [])
unfolding opened
unlimited = record { cars = refl; stops = refl; filled = refl; totalled = refl; decided = refl; swept = refl }
