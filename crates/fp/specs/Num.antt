-- Doubles as the costs use them: the constants of the Rust, its operations at binary64, and the few functions on f64 that it calls. Assumes nothing.
use Rattle.std.specs.Prelude.{ℕ, Bool, true, false, cond, pos, from_bits, Float}
use Rattle.std.specs.Float.{nan, inf, fin, binary64}
use Rattle.std.specs.Float.Ieee.{of_int, add, sub, mul, div, lt}

-- ---- constants, by their bits; specs/Decimals.antt shows that each is the double nearest to the number named beside it

-- 0.0
abbrev pub zero : Float
zero = from_bits binary64 0

-- 1.0
abbrev pub one : Float
one = from_bits binary64 0x3ff0_0000_0000_0000

-- 0.5, by which ETD's bonus weighs a trip that is on the way
abbrev pub half : Float
half = from_bits binary64 0x3fe0_0000_0000_0000

-- 0.3, by which it weighs an idle car's trip
abbrev pub three_tenths : Float
three_tenths = from_bits binary64 0x3fd3_3333_3333_3333

-- 1e-9: sweep.rs's EPSILON, and what ETD keeps off both ends of a trip
abbrev pub epsilon : Float
epsilon = from_bits binary64 0x3e11_2e0b_e826_d695

-- 1,000,000: assignment.rs's ASSIGNMENT_SCALE
abbrev pub million : Float
million = from_bits binary64 0x412e_8480_0000_0000

-- ---- operations, each rounded to nearest, ties to even

abbrev pub plus : Float → Float → Float
plus x y = add binary64 x y

abbrev pub minus : Float → Float → Float
minus x y = sub binary64 x y

abbrev pub times : Float → Float → Float
times x y = mul binary64 x y

abbrev pub over : Float → Float → Float
over x y = div binary64 x y

-- f64::INFINITY, as the code makes it: 1.0 / 0.0
abbrev pub infinity : Float
infinity = over one zero

-- ---- functions

-- f64::abs: the sign is cleared, a zero's too
abbrev pub abs : Float → Float
abs nan = nan
abs (inf s) = inf false
abs (fin s m e) = fin false m e

-- x.max(0.0): 0.0 for a NaN, and for either zero
abbrev pub max_zero : Float → Float
max_zero x = cond (lt zero x) x zero

-- f64::is_finite
abbrev pub finite : Float → Bool
finite nan = false
finite (inf s) = false
finite (fin s m e) = true

-- fp.rs's fma under the feature deterministic-fp: the product is rounded, then the sum
abbrev pub fma : Float → Float → Float → Float
fma a b c = plus (times a b) c

-- the lesser of two, the first where neither is less
abbrev pub lesser : Float → Float → Float
lesser a b = cond (lt b a) b a

-- a whole number as a double, rounded to nearest; exact up to 2^53 (specs/Naturals.antt)
abbrev pub natural : ℕ → Float
natural n = of_int binary64 (pos n)

-- how far apart two coordinates are; a distance is made of two of these (components: Points)
unfoldable pub apart : Float → Float → Float
apart a b = abs (minus a b)
