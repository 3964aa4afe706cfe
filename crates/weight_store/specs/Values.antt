-- When two values are the same, and what comes back of one. Assumes nothing.
use Rattle.std.specs.Prelude.{ℕ, Bool, eqb, Float}
use Rattle.std.specs.Float.Ieee.{of_bits}
use Rattle.std.specs.Float.{binary64}

-- "Two values are the same from now on only if all 64 bits agree": a value is the number of its 64 bits
unfoldable pub same_value : ℕ → ℕ → Bool
same_value a b = eqb a b

-- "The look-up then hands back the stored bits": the weight that comes back of a value (weight_laws: Answered, theorem `stored_bits`)
unfoldable pub weight_back : ℕ → Float
weight_back b = of_bits binary64 b
