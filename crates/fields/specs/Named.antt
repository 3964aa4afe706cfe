-- Ids in a column, and the stops that they name. Assumes nothing.
use Rattle.std.specs.Prelude.{ℕ, ◌+◌, Bool, ◌&&◌, cond, List, eqb, ltb, get_or}
use Rattle.bits.specs.Field.{field_at}
use Rattle.laws.specs.Folds.{any}

-- the id is among the first n
unfoldable pub contains : List ℕ → ℕ → ℕ → Bool
contains ids n id = any (λ i. eqb (get_or ids i 0) id) n

-- j is one of n stops, and its name is among the first k ids
unfoldable pub named : List ℕ → ℕ → List ℕ → ℕ → ℕ → Bool
named ids k names n j = ltb j n && contains ids k (get_or names j 0)

-- an id that counts only where another field is not zero
unfoldable pub guarded : List ℕ → ℕ → ℕ → ℕ → ℕ → ℕ
guarded s at off guard w = cond (eqb (field_at s (at + guard) w) 0) 0 (field_at s (at + off) 32)
