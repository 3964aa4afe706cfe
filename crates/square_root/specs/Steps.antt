-- What the steps of the code promise. Assumes nothing.
use Rattle.std.specs.Prelude.{ℕ, ◌+◌, ◌*◌, ◌^◌, ◌≤◌, ◌<◌, ◌≡◌}
use Rattle.fp.specs.Fields.{field_one}

-- d * 2 ^ k is e * 4 ^ h, and e has 53 digits, or 54 with a 0 at the end
pub record Evened (d k e h : ℕ) : Type 0 where
  pub value : d * 2 ^ k ≡ e * (2 ^ h * 2 ^ h)
  pub least : field_one ≤ e
  pub most : e ≤ 0x3f_ffff_ffff_fffe
  pub half : h < 1050

-- q is the whole part of the root of n, and r is what its square leaves
pub record Rooted (n q r : ℕ) : Type 0 where
  pub sum : q * q + r ≡ n
  pub few : r ≤ 2 * q
