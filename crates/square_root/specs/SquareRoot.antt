-- The square root of a double: IEEE 754's squareRoot at binary64. Rust's f64::sqrt. Request F-11: "Square root is the IEEE one, correctly rounded,
-- proved by comparing squares of whole numbers." Assumes nothing.
use Rattle.std.specs.Prelude.{ℕ, zero, suc, ◌+◌, ◌-◌, ◌*◌, ◌/◌, ◌^◌, false, cond, ltb, leb, eqb, Float}
use Rattle.std.specs.Float.{nan, inf, fin, binary64}
use Rattle.std.specs.Float.Ieee.{up, down, size, units}

-- The whole part of the root of n, the r with r * r ≤ n < (r + 1) * (r + 1) (Squares, `whole_root_lem`), by fours: that of n / 4 with one binary digit
-- more, a 1 where the square allows it. An n below 2 ^ d has at most d of them.
abbrev pub one_more : ℕ → ℕ → ℕ
one_more n r = cond (leb ((2 * r + 1) * (2 * r + 1)) n) (2 * r + 1) (2 * r)

unfoldable pub whole_in : ℕ → ℕ → ℕ
whole_in zero n = zero
whole_in (suc d) n = one_more n (whole_in d (n / 4))

unfoldable pub whole_root : ℕ → ℕ
whole_root n = whole_in (size n) n

-- The root of n least doubles, of 2 ^ -1074, is that of n * 2 ^ 1074, in least doubles. Of its whole part r a double keeps 53 digits, q, and drops k.
-- The nearest double is q * 2 ^ k or (q + 1) * 2 ^ k, as the root lies below or above the middle between the two, twice which is `middle`. It never
-- lies there (Nearest).
abbrev pub middle : ℕ → ℕ → ℕ
middle q k = (2 * q + 1) * 2 ^ k

unfoldable pub nearest_root : ℕ → Float
nearest_root n =
    let square = n * 2 ^ 1074 in
    let r = whole_root square in
    let k = size r - 53 in
    let q = r / 2 ^ k in
    units binary64 false (cond (ltb (middle q k * middle q k) (4 * square)) (suc q) q) k

-- A NaN's is a NaN, infinity's is infinity, a zero's that zero; what is below zero has none. A finite double is ±m × up e / down e.
unfoldable pub square_root : Float → Float
square_root nan = nan
square_root (inf s) = cond s nan (inf false)
square_root (fin s m e) = cond (eqb m 0) (fin s m e) (cond s nan (nearest_root (m * up e * 2 ^ 1074 / down e)))
