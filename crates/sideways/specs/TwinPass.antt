-- Document 02, F-12: "With all second coordinates zero, an accepted edition 2 sheet answers as its edition 1 twin". Assumes nothing.
use Rattle.std.specs.Prelude.{ℕ, ◌<◌, ◌≡◌, true}
use Rattle.components.specs.Sheet.{Sheet}
use Rattle.alike.specs.Zeros.{is_zero}

-- "With all second coordinates zero", of either sign
pub record Level (s : Sheet) : Type 0 where
  pub stop : (j : ℕ) → j < s.stops → is_zero (s.stop j).position.across ≡ true
  pub car : (i : ℕ) → i < s.cars → is_zero (s.car i).position.across ≡ true
