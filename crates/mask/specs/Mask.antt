-- Masks of 64 stops. Document 01: "A mask's highest bit is the first stop record."
use Rattle.std.specs.Prelude.{Bool, ◌&&◌, ℕ, zero, suc, ◌+◌, ◌-◌, ◌*◌, ◌/◌, ◌%◌, ◌^◌, eqb, leb}
use Rattle.laws.specs.Bools.{bit}
use Rattle.laws.specs.Folds.{any}

-- whether stop j is in the mask m
unfoldable pub has : ℕ → ℕ → Bool
has m j = eqb (m / 2 ^ (63 - j) % 2) 1

-- the number whose n digits, highest first, are f 0, f 1, .. f (n - 1): the mask of the stops that pass, at n = 64
unfoldable pub built : (ℕ → Bool) → ℕ → ℕ
built f zero = 0
built f (suc n) = built f n * 2 + bit (f n)

-- "a mask bit past the stops", of which there are n
unfoldable pub past_stops : ℕ → ℕ → Bool
past_stops m n = any (λ j. leb n j && has m j) 64
