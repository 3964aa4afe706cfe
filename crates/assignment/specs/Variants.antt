-- What document 01 says of the limit, of a cell at the sentinel and of coverage, and request F-6 of closure, on small sheets, by computation. Assumes
-- nothing.
use Rattle.std.specs.Prelude.{Ok}
use Rattle.std.specs.Prelude.{ℕ, ◌≡◌, refl, true, false, List, [], ◌∷◌, ◌++◌, set}
use Rattle.scale.specs.Scale.{sentinel}
use Rattle.components.specs.declared.Kind.TheVariants.{Car, Aboard, Waiting, Closed}
use Rattle.components.specs.Sheet.{Sheet}
use Rattle.layout.specs.declared.Counts.{Counts}
use Rattle.layout.specs.Records.{sheet_of}
use Rattle.layout.specs.Verdict.{verdict}
use Rattle.layout.specs.Smallest.{Bits, number, widths, bytes, written, body, of, sheet, one, policy, scan, stop, line, waiting}
use Rattle.sweep.specs.Sweeps.{sweep_code}
use Rattle.manifest.specs.Manifest.{demand_stop}
use Rattle.assignment.specs.Pending.{closed_at, covered, idle_bound, pending, pending_stops}
use Rattle.assignment.specs.Candidates.{kept}
use Rattle.assignment.specs.Cells.{matrix, column, decision, answered_total, sweep_after}
use Rattle.assignment.specs.Example as example
use Rattle.assignment.specs.Example.{everything}

-- ---- the example under the limit 1

-- car 7 stands at 0: stop 2 is viable at 10, stop 3 at 20. "The limit keeps the nearest by distance, then id."
pub nearest_kept : (kept example.sheet 0 1 1 ≡ true) × (kept example.sheet 0 1 2 ≡ false)
unfolding everything
nearest_kept = (refl, refl)

-- ---- the example with stop 2 barred to car 7: bit 1,596

unfoldable pub passed_bytes : List ℕ
passed_bytes = set example.bytes 199 8

unfoldable pub passed_sheet : Sheet
passed_sheet = sheet_of passed_bytes example.counts

-- the limit counts viable stops alone: stop 3 is kept, though stop 2 is nearer
pub barred_passed : (kept passed_sheet 0 1 1 ≡ false) × (kept passed_sheet 0 1 2 ≡ true)
unfolding everything passed_bytes passed_sheet
barred_passed = (refl, refl)

-- ---- the example with stops 2 and 3 barred to car 8: bits 2,333 and 2,334

unfoldable pub barred_bytes : List ℕ
barred_bytes = set example.bytes 291 6

unfoldable pub barred_sheet : Sheet
barred_sheet = sheet_of barred_bytes example.counts

-- its column is below m, but the cell is not below the sentinel: "Otherwise idle"
pub barred_idle : (column barred_sheet 65535 1 ≡ 1)
    × (pending_stops barred_sheet ≡ 2)
    × (matrix barred_sheet 65535 1 1 ≡ sentinel)
    × (decision barred_sheet 65535 1 ≡ 0)
unfolding everything barred_bytes barred_sheet
barred_idle = (refl, refl, refl, refl)

-- ---- two riders at a stop, and a car that takes 100 and opens its doors there

-- the doubles 40, 41, 60, 100
abbrev forty : ℕ
forty = 0x4044_0000_0000_0000

abbrev forty_one : ℕ
forty_one = 0x4044_8000_0000_0000

abbrev sixty : ℕ
sixty = 0x404e_0000_0000_0000

abbrev hundred : ℕ
hundred = 0x4059_0000_0000_0000

-- car 1 of line 1, at stop 1, which is its target
unfoldable opening : Bits
opening = of 1 Car (1 ∷ 1 ∷ 3 ∷ 0 ∷ 1 ∷ 1 ∷ 0 ∷ 1 ∷ 1 ∷ 0 ∷ 0 ∷ 0 ∷ 0 ∷ one ∷ hundred ∷ 0 ∷ 0 ∷ 0 ∷ 0 ∷ 0 ∷ 0 ∷ 0 ∷ 0 ∷ 0 ∷ [])

-- a rider at stop 1 of a weight, who takes any line, or one that is required
unfoldable any_line : ℕ → Bits
any_line weight = of 1 Waiting (1 ∷ 0 ∷ 0 ∷ 0 ∷ 0 ∷ weight ∷ 0 ∷ [])

unfoldable that_line : ℕ → ℕ → Bits
that_line required weight = of 1 Waiting (1 ∷ 1 ∷ required ∷ 0 ∷ 0 ∷ weight ∷ 0 ∷ [])

unfoldable crowd_bytes : Bits → List ℕ
crowd_bytes riders = sheet 1 6 (scan ++ stop 1 ++ line 1 0x8000_0000_0000_0000 ++ opening ++ riders)

unfoldable crowd_counts : Counts
crowd_counts = record { across = 0; policies = 1; stops = 1; lines = 1; cars = 1; aboards = 0; waits = 2; demands = 0; closures = 0 }

unfoldable crowd : Bits → Sheet
crowd riders = sheet_of (crowd_bytes riders) crowd_counts

-- "60 + 40 against 100 is covered; 60 + 41 isn't."
crowd_accepted : verdict (crowd_bytes (any_line sixty ++ any_line forty)) ≡ Ok crowd_counts
unfolding everything number widths bytes written body of sheet policy scan stop line opening any_line crowd_bytes crowd_counts
crowd_accepted = refl

covered_to_the_last : (covered (crowd (any_line sixty ++ any_line forty)) 0 ≡ true)
    × (covered (crowd (any_line sixty ++ any_line forty_one)) 0 ≡ false)
unfolding everything number widths bytes written body of sheet policy scan stop line opening any_line crowd_bytes crowd_counts crowd
covered_to_the_last = (refl, refl)

-- "each waiter's required line, if it has one, is one of theirs"
covered_by_line : (covered (crowd (any_line sixty ++ that_line 1 forty)) 0 ≡ true) × (covered (crowd (any_line sixty ++ that_line 2 forty)) 0 ≡ false)
unfolding everything number widths bytes written body of sheet policy scan stop line opening any_line that_line crowd_bytes crowd_counts crowd
covered_by_line = (refl, refl)

-- ---- a closed landing with demand, and a rider who is bound for it in an idle-listed car

-- car 1 of line 1 at 1, idle-listed, its sweep up and strict
unfoldable pub above : Bits
above = of 1 Car (1 ∷ 1 ∷ 0 ∷ 0 ∷ 0 ∷ 0 ∷ 1 ∷ 1 ∷ 1 ∷ 0 ∷ 0 ∷ one ∷ 0 ∷ one ∷ hundred ∷ 0 ∷ 0 ∷ 0 ∷ 0 ∷ 0 ∷ 0 ∷ 0 ∷ 0 ∷ 0 ∷ [])

-- its rider is bound for stop 1, where someone waits and which is closed
unfoldable pub shut_bytes : List ℕ
shut_bytes =
    sheet 1 7 (scan ++ stop 1 ++ line 1 0x8000_0000_0000_0000 ++ above ++ of 1 Aboard (1 ∷ 1 ∷ 1 ∷ []) ++ waiting 0 ++ of 1 Closed (1 ∷ []))

unfoldable pub shut_counts : Counts
shut_counts = record { across = 0; policies = 1; stops = 1; lines = 1; cars = 1; aboards = 1; waits = 1; demands = 0; closures = 1 }

unfoldable pub shut : Sheet
shut = sheet_of shut_bytes shut_counts

-- one name that opens it
unfoldable pub shut_opened : ℕ
unfolding everything number widths bytes written body of sheet policy scan stop line waiting above shut_bytes shut_counts shut
shut_opened = 0

shut_accepted : verdict shut_bytes ≡ Ok shut_counts
unfolding shut_opened
shut_accepted = refl

-- request F-6: "closure comes first and no car is sent there"
closure_first : (demand_stop shut 0 ≡ true) × (idle_bound shut 0 ≡ true) × (closed_at shut 0 ≡ true) × (pending shut 0 ≡ false)
unfolding shut_opened
closure_first = (refl, refl, refl, refl)

-- "it is no longer pending, and cells, choice and total follow, as do SCAN's sweeps where no pending stop is left"
shut_passed : (pending_stops shut ≡ 0) × (decision shut 65535 0 ≡ 0) × (answered_total shut 65535 ≡ sentinel) × (sweep_code (sweep_after shut 0) ≡ 0)
unfolding shut_opened
shut_passed = (refl, refl, refl, refl)
