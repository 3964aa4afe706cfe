-- Where a record of a kind starts stays small. Assumes nothing.
use Prim.Native.Nat.{ℕ, ◌*◌, ◌≤◌}
use native.Mathlib.Nat.{mul-le-mul}

pub offset_small : (len i : ℕ) → len ≤ 1000 → i ≤ 512 → len * i ≤ 512000
offset_small len i a b = mul-le-mul {n₁ = len} {m₁ = i} {n₂ = 1000} {m₂ = 512} a b
