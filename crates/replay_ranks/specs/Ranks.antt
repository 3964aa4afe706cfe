-- What a stored case asks, and what the proved functions answer. Assumes nothing.
use Rattle.std.specs.Prelude.{Err, Ok, Result}
use Rattle.layout.specs.declared.Refusal.{Refusal}
use Rattle.layout.specs.declared.Counts.{Counts}
use Rattle.std.specs.Prelude.{None, Option, Some}
use Rattle.std.specs.Prelude.{ℕ, ◌+◌, ◌-◌, ◌*◌, ◌/◌, ◌%◌, ◌≤◌, ◌≡◌, Bool, not, ◌&&◌, cond, List, eqb, ltb, length, take, drop, Float}
use Rattle.std.specs.Float.{binary64}
use Rattle.std.specs.Float.Ieee.{eq, to_bits}
use Rattle.laws.specs.Folds.{count}
use Rattle.fp.specs.Num as num
use Rattle.bits.specs.Field.{field_at}
use Rattle.components.specs.Sheet.{Sheet}
use Rattle.layout.specs.Records.{sheet_of}
use Rattle.layout.specs.Verdict.{verdict}
use Rattle.assignment.specs.Cells.{rank}
use Rattle.lists.specs.Turns.{Replayed as AllReplayed}
use Rattle.lists.specs.declared.Step.{Step}
use Rattle.replay_ranks.specs.declared.Answer.{Answer}
use Rattle.replay_ranks.specs.declared.Pair.{Pair}
use Rattle.replay_ranks.specs.declared.Case.{Case}
use Rattle.replay_ranks.specs.declared.Totals.{Totals}

-- ---- a rank as the list has it

-- the 64 bits of a double, 0 for a zero of either sign
unfoldable pub bits_of : Float → ℕ
bits_of x = cond (eq x num.zero) 0 (to_bits binary64 x)

abbrev pub answer_of : Option Float → Answer
answer_of None = record { ranked = 0; bits = 0 }
answer_of (Some x) = record { ranked = 1; bits = bits_of x }

-- of car record i and stop record j; a number that no byte holds where there is no such record
unfoldable pub answer_for : Sheet → ℕ → ℕ → Answer
answer_for s i j = cond (ltb i s.cars && ltb j s.stops) (answer_of (rank s i j)) (record { ranked = 256; bits = 0 })

abbrev pub same : Answer → Answer → Bool
same a b = eqb a.ranked b.ranked && eqb a.bits b.bits

unfoldable pub differs : Sheet → Pair → Bool
differs s p = not (same (answer_for s p.car p.stop) p.stored)

-- ---- the list

-- the w bits from byte at on
abbrev pub number : List ℕ → ℕ → ℕ → ℕ
number s at w = field_at s (8 * at) w

-- a case whose sheet ends at a byte
abbrev pub case_from : ℕ → ℕ → ℕ → Case
case_from end cars stops =
    record { end = end; cars = cars; stops = stops; pairs = cars * stops; next = end + 2 + cars + stops + 9 * (cars * stops) }

-- the case at byte at: the sheet's length and its bytes, n and m, n indices of cars and m of stops, n × m marks with 64 bits each
unfoldable pub case_at : List ℕ → ℕ → Case
case_at s at = let end = at + 2 + number s at 16 in case_from end (number s end 8) (number s (end + 1) 8)

-- pair k, row by row
unfoldable pub pair_at : List ℕ → Case → ℕ → Pair
pair_at s case k =
    let at = case.end + 2 + case.cars + case.stops + 9 * k in
    record {
      car = number s (case.end + 2 + k / case.stops) 8;
      stop = number s (case.end + 2 + case.cars + k % case.stops) 8;
      stored = record { ranked = number s at 8; bits = number s (at + 1) 64 };
    }

-- ---- the totals

-- a refused sheet counts as one that differs
abbrev pub refused_at : Case → Totals → Step Totals
refused_at case t =
    record { next = case.next; totals = record { sheets = t.sheets + 1; ranks = t.ranks; differ = t.differ + 1 } }

-- after a case, by the verdict on its sheet b
unfoldable pub compared_by : Result Counts Refusal → List ℕ → List ℕ → Case → Totals → Step Totals
compared_by (Err r) s b case t = refused_at case t
compared_by (Ok c) s b case t =
    record {
      next = case.next;
      totals = record {
        sheets = t.sheets + 1;
        ranks = t.ranks + case.pairs;
        differ = t.differ + count (λ k. differs (sheet_of b c) (pair_at s case k)) case.pairs;
      };
    }

-- after a case that is cut short
abbrev pub cut_at : List ℕ → Totals → Step Totals
cut_at s t = record { next = length s; totals = record { sheets = t.sheets; ranks = t.ranks; differ = t.differ + 1 } }

-- after the case at byte at; b is its sheet
unfoldable pub turn_of : List ℕ → ℕ → Totals → Step Totals
turn_of s at t =
    let case = case_at s at in
    let b = take (case.end - (at + 2)) (drop (at + 2) s) in
    cond (ltb (length s) case.next) (cut_at s t) (compared_by (verdict b) s b case t)

-- before the first case
abbrev pub none : Totals
none = record { sheets = 0; ranks = 0; differ = 0 }

-- the totals after the whole list
abbrev pub Replayed : List ℕ → Totals → Type 0
Replayed s t = AllReplayed (turn_of s) (length s) none t

-- ---- bounds

-- no count is above the number of bytes that were read
pub record Counted (at : ℕ) (t : Totals) : Type 0 where
  pub sheets : t.sheets ≤ at
  pub ranks : t.ranks ≤ at
  pub differ : t.differ ≤ at

-- a case that lies in 262,144 bytes
pub record Inside (case : Case) : Type 0 where
  pub pairs : case.pairs ≡ case.cars * case.stops
  pub next : case.next ≡ case.end + 2 + case.cars + case.stops + 9 * case.pairs
  pub below : case.next ≤ 262144
