-- Where a bit stands, by a shift and a mask. Document 02, F-4: "it is to be a shift and a mask, proved equal to quotient and remainder by eight".
-- Assumes nothing.
use Rattle.std.specs.Prelude.{ℕ, ◌/◌, ◌%◌, ◌^◌, ◌≡◌, refl}
use Rattle.std.specs.Int.Bits.{bit_and}
use Rattle.std.proofs.lemmas.Nat.{and_mask}

pub shift_and_mask : (n : ℕ) → (n / 2 ^ 3 ≡ n / 8) × (bit_and n 7 ≡ n % 8)
shift_and_mask n = (refl, and_mask n 3)
