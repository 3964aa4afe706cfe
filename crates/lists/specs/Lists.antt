-- Numbers in a stored list. Assumes nothing.
use Rattle.std.specs.Prelude.{ℕ, zero, suc, ◌+◌, ◌-◌, ◌*◌, cond, ltb, List, length, get_or, Option, Some, None}
use Rattle.lists.specs.declared.Verdict.{Verdict}

-- n bytes from byte at, most significant first
unfoldable pub number : List ℕ → ℕ → ℕ → ℕ
number s at zero = 0
number s at (suc n) = number s at n * 256 + get_or s (at + n) 0

-- the k-th of the numbers from byte at on, w bytes each
abbrev pub number_in : List ℕ → ℕ → ℕ → ℕ → ℕ
number_in s at w k = number s (at + w * k) w

-- a refusal as it is stored from byte at on
abbrev pub verdict_at : List ℕ → ℕ → Verdict
verdict_at s at = record { number = number s at 1; offset = number s (at + 1) 4 }

-- how many bytes the part has that a case at byte at begins with, where it and the case's other bytes are there
unfoldable pub part_length : List ℕ → ℕ → ℕ → Option ℕ
part_length s at others =
    cond (ltb (length s - at) others) None (cond (ltb (length s - at - others) (number s at 2)) None (Some (number s at 2)))
