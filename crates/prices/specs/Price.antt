-- Prices, whole numbers of either sign, and what is asked of one and of two beside a cell. Request F-8. Assumes nothing.
use Rattle.std.specs.Prelude.{ℕ, Bool, ◌&&◌, leb, ℤ, pos, ◌+ℤ◌, nat_abs}
use Rattle.std.specs.Int.Signed.{le_z}

-- "a price is beyond 18,014,398,509,481,984 either way", or not
abbrev pub most_price : ℕ
most_price = 18_014_398_509_481_984

unfoldable pub in_range : ℤ → Bool
in_range z = leb (nat_abs z) most_price

-- "The price of a car plus the price of a column never exceeds their cell"
unfoldable pub within : ℤ → ℤ → ℕ → Bool
within x y cell = le_z (x +ℤ y) (pos cell)

-- "and equals it where chosen"
unfoldable pub equals : ℤ → ℤ → ℕ → Bool
equals x y cell = le_z (x +ℤ y) (pos cell) && le_z (pos cell) (x +ℤ y)

-- "column prices are zero or less", "and zero on columns nobody took"
unfoldable pub zero_or_less : ℤ → Bool
zero_or_less y = le_z y (pos 0)

unfoldable pub is_zero : ℤ → Bool
is_zero y = le_z y (pos 0) && le_z (pos 0) y
