-- The look-up over a column of keys. Its laws: proofs/ColumnLaws. Assumes nothing.
use Rattle.std.specs.Prelude.{ℕ, ◌+◌, ◌*◌, ◌^◌, cond, List, eqb, get_or}

-- a slot's first key
abbrev pub first_key : ℕ → ℕ
first_key slot = slot * 2 ^ 48

-- its last that has started by the day
abbrev pub last_key : ℕ → ℕ → ℕ
last_key day slot = first_key slot + day * 2 ^ 16 + 65535

-- the least key that takes over from the best so far: the slot's first where there is none yet, which n stands for
unfoldable pub least_key : ℕ → List ℕ → ℕ → ℕ → ℕ
least_key n keys slot best = cond (eqb best n) (first_key slot) (get_or keys best 0 + 1)
