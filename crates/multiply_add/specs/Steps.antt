-- What the steps of the code promise one another. Numbers are whole numbers of 2 ^ -2148, in which every product of two doubles and every double is
-- whole. Assumes nothing.
use Rattle.std.specs.Prelude.{◌≡◌, ℕ, ◌+◌, ◌*◌, ◌^◌, ◌<◌, ◌≤◌, Bool, cond, ◌⊎◌, ◌==◌, Float}
use Rattle.std.specs.Float.{binary64}
use Rattle.std.specs.Float.Ieee.{round, sum}
use Rattle.std.specs.Float.Ieee.Nearest.{closest}
use Rattle.fp.specs.Fields.{field_one}
use Rattle.rounding.specs.Sticky.{Near}
use Rattle.rounding.specs.Unpack.{significand_of, exponent_of}

-- ---- numbers of two words

-- 2 ^ 64
abbrev pub base : ℕ
base = 18446744073709551616

-- the number that the words hi and lo stand for
abbrev pub wide : ℕ → ℕ → ℕ
wide hi lo = hi * base + lo

-- the words hi and lo stand for n, and hi is below b
pub record Holds (n b hi lo : ℕ) : Type 0 where
  pub value : wide hi lo ≡ n
  pub small : hi < b

-- x cut by k bits, and made odd where something was cut off
pub record Jammed (x k r : ℕ) : Type 0 where
  pub near : Near x (2 ^ k) r
  pub small : r ≤ x

-- hi, made odd where the lower word is not 0
pub record Sticky (hi lo r : ℕ) : Type 0 where
  pub near : Near (wide hi lo) (2 ^ 64) r
  pub least : hi ≤ r
  pub most : r ≤ hi + 1

-- ---- rounding

-- n, with the sign s, to the nearest double
unfoldable pub once : Bool → ℕ → Float
once s n = round binary64 s n (2 ^ 2148)

-- w * 2 ^ up rounds as n does, at every place
pub record Normalised (n w up : ℕ) : Type 0 where
  pub same : (s : Bool) (at : ℕ) → once s (n * 2 ^ at) ≡ once s (w * 2 ^ (at + up))
  pub far : up ≤ 64

-- what packing asks of the digits q and the exponent k
pub record Packs (q k : ℕ) : Type 0 where
  pub most : q ≤ 0x20_0000_0000_0000
  pub least : (k ≡ 0) ⊎ (field_one ≤ q)
  pub place : k < 4000

-- what rounding w * 2 ^ at to 2 ^ k least doubles asks: the result has no more digits than a double
pub record Rounds (w at k : ℕ) : Type 0 where
  pub low : at < 4200
  pub place : k < 4000
  pub near : at < 1074 + k + 64
  pub fits : closest (w * 2 ^ at) (2 ^ (1074 + k)) ≤ 0x20_0000_0000_0000

-- ---- the sum

-- the exponent of a product, and 0 for a product of 0
unfoldable pub product_exponent : ℕ → ℕ → ℕ → ℕ → ℕ
product_exponent m n k l = cond (m == 0) 0 (cond (n == 0) 0 (k + l))

-- ±a + ±b, to the nearest double
unfoldable pub both : Bool → ℕ → Bool → ℕ → Float
both s a t b = sum binary64 s a t b (2 ^ 2148)

-- what an alignment asks of the product at p and the term c at q
pub record Fit (hi lo p c q : ℕ) : Type 0 where
  pub top : hi < 2 ^ 42
  pub few : c < 2 ^ 53
  pub p_lt : p < 4100
  pub q_lt : q < 4100
  pub q_ge : 1074 ≤ q
  pub p_lead : (p ≤ 1074) ⊎ (2 ^ 52 ≤ wide hi lo)
  pub q_lead : (q ≡ 1074) ⊎ (2 ^ 52 ≤ c)

-- n at p and c at q, brought to one place: the sum rounds to the same
pub record Aligned (n p c q ph pl ch cl at : ℕ) : Type 0 where
  pub p_small : ph < 2 ^ 63
  pub c_small : ch < 2 ^ 63
  pub at_lt : at < 4100
  pub same : (s t : Bool) → both s (n * 2 ^ p) t (c * 2 ^ q) ≡ both s (wide ph pl * 2 ^ at) t (wide ch cl * 2 ^ at)

-- ±n is ±a + ±b, at every place
pub record Sums (s : Bool) (a : ℕ) (t : Bool) (b : ℕ) (neg : Bool) (n : ℕ) : Type 0 where
  pub is : (at : ℕ) → both s (a * 2 ^ at) t (b * 2 ^ at) ≡ once neg (n * 2 ^ at)

-- the product of the patterns x and y, and the pattern z, brought to one place
pub record Terms (x y z ph pl ch cl at : ℕ) : Type 0 where
  pub p_small : ph < 2 ^ 63
  pub c_small : ch < 2 ^ 63
  pub at_lt : at < 4100
  pub same : (s t : Bool)
      → both s (significand_of x * 2 ^ exponent_of x * (significand_of y * 2 ^ exponent_of y)) t (significand_of z * 2 ^ exponent_of z * 2 ^ 1074)
      ≡ both s (wide ph pl * 2 ^ at) t (wide ch cl * 2 ^ at)
